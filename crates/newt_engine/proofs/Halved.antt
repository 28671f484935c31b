-- The device of the source of a move fails once the target has the entry: the cursors that were settled on it are those of the world without the source.
use Rattle.std.proofs.Common.{◌≡◌, refl, ap, sym, ◌∙◌, subst, ℕ, ◌+◌, zero, suc, List, [], ◌∷◌, Bool, true, false, cond, find, IsTrue, Option, Some, None, option_map, replicate, ◌==◌}
use Rattle.std.specs.Prelude.{⊤, filter_map}
use Rattle.std.specs.List.{cons_option, enumerate_from}
use Rattle.newt_spec_graph.specs.Lists.{Each}
use Rattle.newt_spec_query.specs.Cursor.{Cursor}
use Rattle.newt_spec_store.specs.Store.{Entry, Store, add_entry, change_soup, entry_of, remove_entry}
use Rattle.newt_spec_store.specs.Valid.{well_formed}
use Rattle.newt_spec_world.specs.Changed.{changed, default_without, first_of_list}
use Rattle.newt_spec_world.specs.Step.{thrown_out}
use Rattle.newt_spec_world.specs.World.{World, Device, Media, blank, one, two, lost, change_at, change_device, change_media, change_store, mounted, mounted_store, mounted_stores, on_unit, settle, store_of}
use Rattle.newt_spec_world.specs.declared.command.Command.{Command}
use Rattle.newt_spec_world.specs.declared.command.Command.TheVariants as command
use Rattle.newt_laws_world.specs.Cursors.{all_closed, uses_cursors, with_cursors}
use Rattle.newt_laws_world.specs.Settled.{IsSettled, MountedApart}
use Rattle.newt_laws_world.proofs.Kept.{Every, Wf}
use Rattle.newt_laws_world.proofs.Uncursored.{changed-apart}
use Rattle.newt_laws_world.proofs.Units.{change-device, device-other}
use Rattle.newt_laws_answers.proofs.Units.{is-mounted}
use Rattle.newt_laws_reach.specs.Reach.{Reach, in_soup, in_store, on_entry, reach, settle_reached}
use Rattle.newt_engine_units.specs.Found.{HasSoup}
use Rattle.newt_engine_commands.proofs.Moves.{WasAdded}
use Rattle.newt_engine.proofs.Alone.{store-alone}
use Rattle.newt_engine.proofs.Applying.{out-apart}
use Rattle.newt_engine.proofs.Moving.{AreFormed, added-apart, added-there, cursors-alike, found-one, move_no_cursor}
use Rattle.newt_engine.proofs.Outcast.{out-settled}
use Rattle.newt_engine.proofs.Settling.{row_settled}

abbrev outcast : Device → Device
outcast d = record d { media = lost; mounted = false }

-- ---- another unit has its store changed

abbrev placed : ℕ × Option Device → Option (ℕ × Store)
placed d = option_map (λ (s : Store). (d.0, s)) (on_unit d.1)

abbrev first_number : List (ℕ × Store) → Option ℕ
first_number ms = option_map (λ (m : ℕ × Store). m.0) (first_of_list ms)

-- the mounted units are the same ones
numbers-same : (f : Store → Store) (k t : ℕ) (us : List (Option Device))
    → first_number (filter_map placed (enumerate_from k (change_at t (λ (d : Device). record d { media = change_media f d.media }) us))) ≡ first_number (filter_map placed (enumerate_from k us))
numbers-same f k t [] = refl
numbers-same f k zero (None ∷ xs) = refl
numbers-same f k zero (Some d ∷ xs) = go d.mounted d.media (filter_map placed (enumerate_from (k + 1) xs))
  where
    go : (b : Bool) (m : Media) (rest : List (ℕ × Store)) → first_number (cons_option (option_map (λ (s : Store). (k, s)) (cond b (store_of (change_media f m)) None)) rest)
        ≡ first_number (cons_option (option_map (λ (s : Store). (k, s)) (cond b (store_of m) None)) rest)
    go false m rest = refl
    go true blank rest = refl
    go true (one s) rest = refl
    go true (two a b) rest = refl
    go true lost rest = refl
numbers-same f k (suc t) (o ∷ xs) = go (on_unit o) (numbers-same f (k + 1) t xs)
  where
    go : (s : Option Store) → first_number (filter_map placed (enumerate_from (k + 1) (change_at t (λ (d : Device). record d { media = change_media f d.media }) xs))) ≡ first_number (filter_map placed (enumerate_from (k + 1) xs))
        → first_number (cons_option (option_map (λ (s : Store). (k, s)) s) (filter_map placed (enumerate_from (k + 1) (change_at t (λ (d : Device). record d { media = change_media f d.media }) xs))))
        ≡ first_number (cons_option (option_map (λ (s : Store). (k, s)) s) (filter_map placed (enumerate_from (k + 1) xs)))
    go None more = more
    go (Some s) more = refl

at-both : {X : Type 0} (m n : ℕ) (f g : X → X) (xs : List (Option X)) → (n ≡ m → ⊥) → change_at m f (change_at n g xs) ≡ change_at n g (change_at m f xs)
at-both m n f g [] differ = refl
at-both zero zero f g (x ∷ xs) differ = absurd (differ refl)
at-both zero (suc n) f g (x ∷ xs) differ = refl
at-both (suc m) zero f g (x ∷ xs) differ = refl
at-both (suc m) (suc n) f g (x ∷ xs) differ = ap {A = List (Option _)} (λ ys. x ∷ ys) (at-both m n f g xs (λ is. differ (ap suc is)))

-- so it makes no difference whether a unit is thrown out before or after
out-after : (w : World) (u to : ℕ) (f : Store → Store) → (to ≡ u → ⊥) → thrown_out (change_store w to f) u (λ _. lost) ≡ change_store (thrown_out w u (λ _. lost)) to f
out-after w u to f differ =
    ap {A = List (Option Device)} {B = World} (λ us. let x = record w { units = us } in record x { default = default_without x u }) (at-both u to outcast (λ (d : Device). record d { media = change_media f d.media }) w.units differ)
    ∙ ap {A = Option ℕ} {B = World} (λ d. record w { units = change_at to (λ (d : Device). record d { media = change_media f d.media }) (change_at u outcast w.units); default = d }) (same w.default)
  where
    same : (d : Option ℕ) → default_without (record w { units = change_at to (λ (d : Device). record d { media = change_media f d.media }) (change_at u outcast w.units); default = d }) u
        ≡ default_without (record w { units = change_at u outcast w.units; default = d }) u
    same None = refl
    same (Some v) = ap {A = Option ℕ} {B = Option ℕ} (λ first. cond (u == v) first (Some v)) (numbers-same f 0 to (change_at u outcast w.units))

-- ---- the stores that are left

each-out : (P : Store → Type 0) (u : ℕ) (us : List (Option Device)) → Each P (filter_map on_unit us) → Each P (filter_map on_unit (change_at u outcast us))
each-out P u [] h = h
each-out P zero (o ∷ xs) h = here o (drop (on_unit o) h)
  where
    drop : (s : Option Store) → Each P (cons_option s (filter_map on_unit xs)) → Each P (filter_map on_unit xs)
    drop None k = k
    drop (Some s) k = k.1

    here : (o : Option Device) → Each P (filter_map on_unit xs) → Each P (cons_option (on_unit (option_map outcast o)) (filter_map on_unit xs))
    here None k = k
    here (Some d) k = k
each-out P (suc u) (o ∷ xs) h = keep (on_unit o) (each-out P u xs) h
  where
    keep : (s : Option Store) → (Each P (filter_map on_unit xs) → Each P (filter_map on_unit (change_at u outcast xs))) → Each P (cons_option s (filter_map on_unit xs)) → Each P (cons_option s (filter_map on_unit (change_at u outcast xs)))
    keep None more k = more k
    keep (Some s) more k = (k.0, more k.1)

-- ---- the cursors

adds_no_cursor : (to : ℕ) (name : List ℕ) (g : _) → uses_cursors (command.Add to name g) ≡ false
unfolding uses_cursors
adds_no_cursor to name g = refl

module _ (w : World) (u to : ℕ) (name target : List ℕ) (sig into uid : ℕ) (h : HasSoup w u name sig) (k : HasSoup w to target into) (none : w.cursors ≡ replicate 32 None)
    (e : Entry) (found : entry_of uid h.soup ≡ Some e) (differ : to ≡ u → ⊥) (apart : MountedApart w) (closed : IsTrue (all_closed w)) (formed : Every Wf w)
    (ks : List (Option Cursor)) (settled : IsSettled (with_cursors ks w)) (mid : World) (n : ℕ) (was : WasAdded w u to name target sig into uid h k none e found differ mid n) (mid_formed : AreFormed mid) where
  abbrev add : Store → Store
  add = change_soup k.soup.name (add_entry w.minute e.graph)

  abbrev without : Store → Store
  without = change_soup h.soup.name (remove_entry uid)

  abbrev moves : Command
  moves = command.Move u name uid to target

  -- the entry is added alone, in the world without the source
  abbrev adds : Command
  adds = command.Add to k.soup.name e.graph

  abbrev begun : World
  begun = thrown_out w u (λ _. lost)

  abbrev out : World
  out = thrown_out mid u (λ _. lost)

  abbrev new_entry : Reach
  new_entry = on_entry k.store.sig into n

  out-is : out ≡ changed begun adds
  unfolding changed
  out-is = ap (λ (x : World). thrown_out x u (λ _. lost)) was.world ∙ out-after w u to add differ

  begun-there : mounted_store begun to ≡ Some k.store
  begun-there = ap on_unit (device-other w u outcast to differ) ∙ is-mounted w to k.blocks k.store k.on

  reach-adds : reach begun adds ≡ new_entry
  unfolding reach
  reach-adds = ap (in_store (λ s p. on_entry s.sig p.sig p.next_uid) k.soup.name) begun-there ∙ ap (in_soup (λ p. on_entry k.store.sig p.sig p.next_uid)) k.self_named
      ∙ ap (λ m. on_entry k.store.sig m k.soup.next_uid) k.sig_is ∙ ap (on_entry k.store.sig into) (sym was.number)

  settled-out : settle (with_cursors ks out) ≡ settle_reached new_entry (with_cursors ks out)
  settled-out = subst (λ (x : World). settle (with_cursors ks x) ≡ settle_reached new_entry (with_cursors ks x)) (sym out-is)
      (subst (λ (r : Reach). settle (with_cursors ks (changed begun adds)) ≡ settle_reached r (with_cursors ks (changed begun adds))) reach-adds
      (row_settled ks begun closed (change-device (λ _. ⊤) Wf w u outcast formed (λ d there. tt)) (out-apart w u apart) (out-settled (with_cursors ks w) u formed apart settled) adds (adds_no_cursor to k.soup.name e.graph)))

  mid-apart : MountedApart mid
  mid-apart = added-apart w u to name target sig into uid h k none e found differ apart mid n was

  mid-there : mounted_store mid to ≡ Some (add k.store)
  mid-there = added-there w u to name target sig into uid h k none e found differ apart mid n was

  same : find (λ t. t.sig == k.store.sig) (mounted_stores mid) ≡ find (λ t. t.sig == k.store.sig) (mounted_stores out)
  same = found-one mid to (add k.store) mid-apart mid-there ∙ sym (found-one out to (add k.store) (out-apart mid u mid-apart) (ap on_unit (device-other mid u outcast to differ) ∙ mid-there))

  still : (ls : List (Option Cursor)) (x : World) → with_cursors ls x ≡ settle_reached new_entry (with_cursors ks mid) → with_cursors ls out ≡ settle (with_cursors ks out)
  still ls x is = ap (λ cs. with_cursors cs out)
      (ap (λ (v : World). v.cursors) is ∙ cursors-alike mid out mid-apart (out-apart mid u mid-apart) mid_formed (each-out (λ (s : Store). IsTrue (well_formed s)) u mid.units mid_formed) k.store.sig same into n ks)
      ∙ sym settled-out

  -- the known world without the source
  pub halfway-world : (ls : List (Option Cursor)) (x : World) → with_cursors ls x ≡ settle_reached new_entry (with_cursors ks mid) → (after : World) → thrown_out after u (λ _. lost) ≡ out → with_cursors ks (changed w moves) ≡ with_cursors ks (change_store mid u without)
      → thrown_out (with_cursors ls after) u (λ _. lost) ≡ settle (thrown_out (changed (with_cursors ks w) moves) u (λ _. lost))
  halfway-world ls x is after eq row = ap (λ (v : World). with_cursors ls v) eq ∙ still ls x is ∙ ap settle (sym back)
    where
      back : thrown_out (changed (with_cursors ks w) moves) u (λ _. lost) ≡ with_cursors ks out
      back = ap (λ (v : World). thrown_out v u (λ _. lost)) (changed-apart ks w moves (move_no_cursor u name uid to target) ∙ row)
          ∙ ap (λ (v : World). with_cursors ks v) (store-alone mid u without)
