-- Steps where no device fails, and what is held after any step.
use Rattle.std.proofs.Common.{◌≡◌, refl, ap, sym, ◌∙◌, subst, ℕ, List, [], ◌∷◌, true, false, Bool, ◌&&◌, not, ◌⊎◌, inl, inr, Option, Some, None, is_none, option_map, option_and_then, unwrap_or, if◌then◌else◌, IsTrue, ◌==◌}
use Rattle.std.specs.Option.{is_some}
use Rattle.std.proofs.lemmas.Bool.{eqb-true}
use Rattle.newt_base.specs.Refusals.{first_of}
use Rattle.newt_base.specs.declared.Refusal.{Refusal}
use Rattle.newt_spec_store.specs.Store.{Store, new_store}
use Rattle.newt_spec_world.specs.declared.command.Command.{Command}
use Rattle.newt_spec_world.specs.declared.command.Command.TheVariants as command
use Rattle.newt_spec_world.specs.Reply.{Reply}
use Rattle.newt_spec_world.specs.World.{World, Device, Media, blank, one, two, lost, stores_of, is_unsure, store_of, device, stores_on, unsure_on, store_on_unit, change_device, settle}
use Rattle.newt_spec_world.specs.Changed.{changed}
use Rattle.newt_spec_world.specs.Refused.{checks, no_unit, bad_blocks, is_mounted}
use Rattle.newt_spec_world.specs.Answer.{answer, answered}
use Rattle.newt_spec_world.specs.Step.{Step, plain, found, thrown, halfway, Found, MayTurnOut, with_media, looks_at, look_checks, unsure_look, looks_anew, is_format_of, moves_away, writes, may_tear, store_after, torn, thrown_out, world_thrown, either_of, world_halfway}
use Rattle.newt_laws_changes.specs.Later.{StoreLater}
use Rattle.newt_laws_changes.proofs.Later.{store-not, store-trans}
use Rattle.newt_laws_steps.specs.Steps.{AllSure, IsQuiet, StoresLater, WorldMayBeLater}
use Rattle.newt_spec_graph.specs.Lists.{Among}
use Rattle.newt_spec_graph.proofs.Lists.{some-same, none-some}
use Rattle.newt_laws_world.proofs.Units.{same-or-not, device-other, device-same}
use Rattle.newt_laws_world.proofs.Kept.{AllFalse, all-false}
use Rattle.newt_laws_world.proofs.Later.{row-later}
use Rattle.newt_laws_steps.proofs.Kept.{Goes-on, Device-kept, KeptOn, kept-not, kept-same, row-kept, answer-kept, stores-by}

-- the stores that a device may hold, or none
abbrev stores_at : Option Device → List Store
stores_at o = elim o [ None ↦ [] | Some d ↦ stores_of d.media ]

-- it is not known what a device holds
abbrev unsure_at : Option Device → Bool
unsure_at o = elim o [ None ↦ false | Some d ↦ is_unsure d.media ]

-- ---- nothing is looked at anew

look-sure : (w : World) (u : ℕ) → unsure_on w u ≡ false → unsure_look w u ≡ None
look-sure w u h = go (is_none (first_of (look_checks w u))) (unsure_on w u) h
  where
    go : (a b : Bool) → b ≡ false → ◌≡◌ {A = Option ℕ} (if a && b then Some u else None) None
    go true false h = refl
    go true true h = cc
    go false b h = refl

pub looks-sure : (w : World) (c : Command) → AllSure w → looks_anew w c ≡ None
looks-sure w c h = go (looks_at c)
  where
    go : (o : Option ℕ) → option_and_then (unsure_look w) o ≡ None
    go None = refl
    go (Some u) = look-sure w u (h u)

pub quiet-plain : (w : World) (c : Command) (v : World) (r : Reply) → AllSure w → Step w c v r → IsQuiet r → answer w c ≡ (v, r)
quiet-plain w c v r h (plain none is) quiet = is
quiet-plain w c v r h (found {u} looks has is) quiet = absurd (none-some u (sym (looks-sure w c h) ∙ looks))
quiet-plain w c v r h (thrown {u} next is) quiet = absurd (quiet u is)
quiet-plain w c v r h (halfway {u} moves ok next is) quiet = absurd (quiet u is)

-- ---- a world that is sure stays so

goes-sure : (m n : Media) → Goes-on m n → is_unsure m ≡ false → is_unsure n ≡ false
goes-sure blank n h e = ap is_unsure h
goes-sure (one s) n h e = ap is_unsure h.1
goes-sure (two a b) n h e = cc
goes-sure lost n h e = cc

device-sure : (o p : Option Device) → Device-kept o p
    → unsure_at o ≡ false → unsure_at p ≡ false
device-sure None p h e = ap unsure_at h
device-sure (Some d) p h e = ap unsure_at h.1 ∙ goes-sure d.media h.0.media h.2 e

pub kept-sure : (w v : World) (n : ℕ) → KeptOn w v n → unsure_on w n ≡ false → unsure_on v n ≡ false
kept-sure w v n h e = device-sure (device w n) (device v n) h e

-- a device after a format
abbrev as_formatted : List ℕ → ℕ → Device → Device
as_formatted name sig d = record d { media = one (new_store name sig); mounted = false }

-- a format makes its own unit sure
format-sure : (w : World) (u : ℕ) (name : List ℕ) (sig n : ℕ) → unsure_on w n ≡ false → unsure_on (changed w (command.Format u name sig)) n ≡ false
unfolding changed
format-sure w u name sig n e = go (same-or-not n u)
  where
    mapped-sure : (o : Option Device) → unsure_at (option_map (as_formatted name sig) o) ≡ false
    mapped-sure None = refl
    mapped-sure (Some d) = refl

    go : (n ≡ u) ⊎ (n ≡ u → ⊥) → unsure_on (change_device w u (as_formatted name sig)) n ≡ false
    go (inl is) = ap (unsure_on (change_device w u (as_formatted name sig))) is
        ∙ ap unsure_at (device-same w u (as_formatted name sig)) ∙ mapped-sure (device w u)
    go (inr differs) = ap unsure_at (device-other w u (as_formatted name sig) n differs) ∙ e

pub row-sure : (w : World) (c : Command) (n : ℕ) → unsure_on w n ≡ false → unsure_on (changed w c) n ≡ false
row-sure w (command.Format u name sig) n e = format-sure w u name sig n e
row-sure w c n e = kept-sure w (changed w c) n (row-kept w c n refl) e

pub answer-sure : (w : World) (c : Command) → AllSure w → AllSure (answer w c).0
unfolding answer
answer-sure w c h n = go (first_of (checks w c)) refl
  where
    go : (o : Option Refusal) → first_of (checks w c) ≡ o → unsure_on (answered w c o).0 n ≡ false
    go None e = row-sure w c n (h n)
    go (Some r) e = h n

-- ---- stores go on

pub stores-not : (ms : List Store) (s : Store) → Among ms s → StoresLater ms ms
stores-not ms s h = record { each = λ t k. (t, k, store-not t); some = (s, h) }

pub stores-trans : (ls ms ns : List Store) → StoresLater ls ms → StoresLater ms ns → StoresLater ls ns
stores-trans ls ms ns h k = record {
  each = λ t a. let r = k.each t a in let q = h.each r.0 r.1 in (q.0, q.1, store-trans q.0 r.0 t q.2 r.2);
  some = k.some;
}

single-later : (s t : Store) → StoreLater s t → StoresLater (s ∷ []) (t ∷ [])
single-later s t h = record { each = λ x k. (s, inl refl, among-one x k); some = (t, inl refl) }
  where
    among-one : (x : Store) → (t ≡ x) ⊎ ⊥ → StoreLater s x
    among-one x (inl e) = subst (StoreLater s) e h
    among-one x (inr k) = absurd k

media-later : (m n : Media) → Goes-on m n → (s : Store) → Among (stores_of m) s → StoresLater (stores_of m) (stores_of n)
media-later blank n h s k = absurd k
media-later (one x) n h s k = subst (λ y. StoresLater (x ∷ []) (stores_of y)) (sym h.1) (single-later x h.0 h.2)
media-later (two a b) n h s k = subst (λ y. StoresLater (a ∷ b ∷ []) (stores_of y)) (sym h) (stores-not (a ∷ b ∷ []) s k)
media-later lost n h s k = absurd k

device-later : (o p : Option Device) → Device-kept o p → (s : Store) → Among (stores_at o) s → StoresLater (stores_at o) (stores_at p)
device-later None p h s k = absurd k
device-later (Some d) p h s k = subst (λ q. StoresLater (stores_of d.media) (stores_at q)) (sym h.1) (media-later d.media h.0.media h.2 s k)

pub kept-later : (w v : World) (n : ℕ) → KeptOn w v n → (s : Store) → Among (stores_on w n) s → StoresLater (stores_on w n) (stores_on v n)
kept-later w v n h s k = device-later (device w n) (device v n) h s k

-- ---- a format of a unit of which it is known what it holds

-- a unit that is sure and has a store has one
sure-one : (w : World) (n : ℕ) (s : Store) → unsure_on w n ≡ false → Among (stores_on w n) s → is_some (store_on_unit w n) ≡ true
sure-one w n s e k = go (device w n) e k
  where
    media : (m : Media) → is_unsure m ≡ false → Among (stores_of m) s → is_some (store_of m) ≡ true
    media blank e k = absurd k
    media (one t) e k = refl
    media (two a b) e k = cc
    media lost e k = absurd k

    go : (o : Option Device) → unsure_at o ≡ false → Among (stores_at o) s → is_some (option_and_then (λ (d : Device). store_of d.media) o) ≡ true
    go None e k = absurd k
    go (Some d) e k = media d.media e k

both-ways : {A : Type 0} (b : Bool) → b ≡ true → b ≡ false → A
both-ways b h k = cc

-- a format of a unit that has a store is refused
format-refused : (w : World) (c : Command) (n : ℕ) (s : Store) → unsure_on w n ≡ false → Among (stores_on w n) s → first_of (checks w c) ≡ None → is_format_of c n ≡ false
unfolding checks
format-refused w (command.Format u name sig) n s e k ok = go (u == n) refl
  where
    tests : AllFalse (checks w (command.Format u name sig))
    tests = all-false (checks w (command.Format u name sig)) ok

    go : (b : Bool) → (u == n) ≡ b → (u == n) ≡ false
    go false is = is
    go true is = both-ways (is_some (store_on_unit w u)) (ap (λ m. is_some (store_on_unit w m)) (eqb-true u n is) ∙ sure-one w n s e k) tests.1.1.1.0
format-refused w c n s e k ok = refl

-- a unit that a plain command looks at anew is refused before, or is known
look-known : (w : World) (c : Command) (n : ℕ) → looks_anew w c ≡ None → first_of (checks w c) ≡ None → is_format_of c n ≡ true → unsure_on w n ≡ false
unfolding checks
look-known w (command.Format u name sig) n none ok is = go (unsure_on w u) refl
  where
    tests : AllFalse (checks w (command.Format u name sig))
    tests = all-false (checks w (command.Format u name sig)) ok

    passed : (a b c : Bool) → a ≡ false → b ≡ false → c ≡ false → (r q p : Refusal) → first_of ((r, a) ∷ (q, b) ∷ (p, c) ∷ []) ≡ None
    passed false false false h k l r q p = refl
    passed true b c h k l r q p = both-ways true refl h
    passed false true c h k l r q p = both-ways true refl k
    passed false false true h k l r q p = both-ways true refl l

    looked : first_of (look_checks w u) ≡ None
    looked = passed (no_unit w u).1 (bad_blocks w u).1 (is_mounted w u).1 tests.0 tests.1.0 tests.1.1.0 (no_unit w u).0 (bad_blocks w u).0 (is_mounted w u).0

    go : (b : Bool) → unsure_on w u ≡ b → unsure_on w n ≡ false
    go false e = ap (unsure_on w) (sym (eqb-true u n is)) ∙ e
    go true e = absurd (none-some u (sym none ∙ ap (λ (o : Option Refusal). let x : Option ℕ = if is_none o && unsure_on w u then Some u else None in x) looked
        ∙ ap (λ (b : Bool). let x : Option ℕ = if b then Some u else None in x) e))
look-known w c n none ok is = both-ways false is refl

-- ---- the steps

answer-goes : (w : World) (c : Command) (n : ℕ) (s : Store) → (first_of (checks w c) ≡ None → is_format_of c n ≡ true → unsure_on w n ≡ false) → Among (stores_on w n) s
    → StoresLater (stores_on w n) (stores_on (answer w c).0 n)
answer-goes w c n s known k = kept-later w (answer w c).0 n (answer-kept w c n (λ ok. go (is_format_of c n) refl ok)) s k
  where
    go : (b : Bool) → is_format_of c n ≡ b → first_of (checks w c) ≡ None → is_format_of c n ≡ false
    go false e ok = e
    go true e ok = format-refused w c n s (known ok e) k ok

pub plain-later : (w : World) (c : Command) → looks_anew w c ≡ None → WorldMayBeLater w (answer w c).0
plain-later w c none n s k = answer-goes w c n s (look-known w c n none) k

-- ---- a unit that is looked at anew

look-of : (w : World) (c : Command) (u n : ℕ) → looks_anew w c ≡ Some u → is_format_of c n ≡ true → n ≡ u
look-of w (command.Format m name sig) u n looks is = sym (eqb-true m n is) ∙ go (is_none (first_of (look_checks w m)) && unsure_on w m) looks
  where
    go : (b : Bool) → ◌≡◌ {A = Option ℕ} (if b then Some m else None) (Some u) → m ≡ u
    go true e = some-same m u e
    go false e = absurd (none-some u e)
look-of w c u n looks is = both-ways false is refl

turns-sure : (blocks : ℕ) (m n : Media) → MayTurnOut blocks m n → is_unsure n ≡ false
turns-sure blocks blank n h = absurd h
turns-sure blocks (one s) n h = absurd h
turns-sure blocks (two a b) n (inl e) = ap is_unsure e
turns-sure blocks (two a b) n (inr e) = ap is_unsure e
turns-sure blocks lost n (inl e) = ap is_unsure e
turns-sure blocks lost n (inr e) = ap is_unsure e.2

turns-later : (blocks : ℕ) (m n : Media) → MayTurnOut blocks m n → (s : Store) → Among (stores_of m) s → StoresLater (stores_of m) (stores_of n)
turns-later blocks blank n h s k = absurd h
turns-later blocks (one x) n h s k = absurd h
turns-later blocks (two a b) n (inl e) s k = subst (λ y. StoresLater (a ∷ b ∷ []) (stores_of y)) (sym e) (record { each = λ t j. (t, first j, store-not t); some = (a, inl refl) })
  where
    first : {t : Store} → (a ≡ t) ⊎ ⊥ → (a ≡ t) ⊎ ((b ≡ t) ⊎ ⊥)
    first (inl e) = inl e
    first (inr f) = absurd f
turns-later blocks (two a b) n (inr e) s k = subst (λ y. StoresLater (a ∷ b ∷ []) (stores_of y)) (sym e) (record { each = λ t j. (t, inr j, store-not t); some = (b, inl refl) })
turns-later blocks lost n h s k = absurd k

with-same : (w : World) (u : ℕ) (m : Media) (d : Device) → device w u ≡ Some d → device (with_media w u m) u ≡ Some (record d { media = m })
with-same w u m d e = device-same w u (λ d. record d { media = m }) ∙ ap (option_map {T = Device} (λ d. record d { media = m })) e

with-later : (w : World) (u : ℕ) (m : Media) (d : Device) → device w u ≡ Some d → MayTurnOut d.blocks d.media m → WorldMayBeLater w (with_media w u m)
with-later w u m d e may n s k = go (same-or-not n u)
  where
    at : (p q : ℕ) → p ≡ q → Among (stores_on w p) s → Among (stores_on w q) s
    at p q is h = subst (λ x. Among (stores_on w x) s) is h

    go : (n ≡ u) ⊎ (n ≡ u → ⊥) → StoresLater (stores_on w n) (stores_on (with_media w u m) n)
    go (inl is) = subst (λ x. StoresLater (stores_on w x) (stores_on (with_media w u m) x)) (sym is)
        (subst (λ y. StoresLater (stores_on w u) y) (sym (ap stores_at (with-same w u m d e)))
        (subst (λ y. StoresLater y (stores_of m)) (sym (stores-by w u d e)) (turns-later d.blocks d.media m may s (subst (λ y. Among y s) (stores-by w u d e) (at n u is k)))))
    go (inr differs) = kept-later w (with_media w u m) n (kept-same w (with_media w u m) n (device-other w u (λ d. record d { media = m }) n differs)) s k

pub found-later : (w : World) (c : Command) (u : ℕ) (v : World) → looks_anew w c ≡ Some u → Found w u v → WorldMayBeLater w (answer v c).0
found-later w c u v looks f n s k = subst (λ x. StoresLater (stores_on w n) (stores_on (answer x c).0 n)) (sym f.is)
    (stores-trans (stores_on w n) (stores_on (with_media w u f.holds) n) (stores_on (answer (with_media w u f.holds) c).0 n) first
    (answer-goes (with_media w u f.holds) c n first.some.0 known first.some.1))
  where
    first : StoresLater (stores_on w n) (stores_on (with_media w u f.holds) n)
    first = with-later w u f.holds f.on f.there f.may n s k

    known : first_of (checks (with_media w u f.holds) c) ≡ None → is_format_of c n ≡ true → unsure_on (with_media w u f.holds) n ≡ false
    known ok is = ap (unsure_on (with_media w u f.holds)) (look-of w c u n looks is) ∙ ap unsure_at (with-same w u f.holds f.on f.there) ∙ turns-sure f.on.blocks f.on.media f.holds f.may

-- ---- a unit that is thrown out

two-later : (s t : Store) → StoreLater s t → StoresLater (s ∷ []) (s ∷ t ∷ [])
two-later s t h = record { each = λ x k. among-two x k; some = (s, inl refl) }
  where
    among-two : (x : Store) → (s ≡ x) ⊎ ((t ≡ x) ⊎ ⊥) → (y : Store) × Among (s ∷ []) y × StoreLater y x
    among-two x (inl e) = (s, inl refl, subst (StoreLater s) e (store-not s))
    among-two x (inr (inl e)) = (s, inl refl, subst (StoreLater s) e h)
    among-two x (inr (inr k)) = absurd k

pub accepted : (o : Option Refusal) (a b : Bool) → (is_none o && a) && b ≡ true → o ≡ None
accepted None a b e = refl
accepted (Some r) a b e = both-ways false e refl

store-by : (w : World) (u : ℕ) (d : Device) → device w u ≡ Some d → store_on_unit w u ≡ store_of d.media
store-by w u d e = ap (option_and_then (λ (d : Device). store_of d.media)) e

after-later : (w : World) (c : Command) (u : ℕ) (s : Store) → store_on_unit w u ≡ Some s → first_of (checks w c) ≡ None → StoreLater s (store_after w c u s)
after-later w c u s e ok = let r = row-later w c (all-false (checks w c) ok) u s e in subst (λ o. StoreLater s (unwrap_or o s)) (sym r.1) r.2

torn-later : (w : World) (c : Command) (u : ℕ) (d : Device) → device w u ≡ Some d → (s : Store) → Among (stores_of d.media) s → StoresLater (stores_of d.media) (stores_of (torn w c u d.media))
torn-later w c u d e s k = go d.media (store-by w u d e) k
  where
    go : (m : Media) → store_on_unit w u ≡ store_of m → Among (stores_of m) s → StoresLater (stores_of m) (stores_of (torn w c u m))
    go blank e k = absurd k
    go (one x) e k = which (may_tear w c u) refl
      where
        which : (b : Bool) → may_tear w c u ≡ b → StoresLater (x ∷ []) (stores_of (if b then two x (store_after w c u x) else one x))
        which true is = two-later x (store_after w c u x) (after-later w c u x e (accepted (first_of (checks w c)) (writes w c u) (not (moves_away c u)) is))
        which false is = stores-not (x ∷ []) s k
    go (two a b) e k = stores-not (a ∷ b ∷ []) s k
    go lost e k = absurd k

-- a unit of a world, and then thrown out
out-later : (w v : World) (u : ℕ) (change : Media → Media) → ((n : ℕ) → KeptOn w v n)
    → ((d e : Device) → device w u ≡ Some d → device v u ≡ Some e → Goes-on d.media e.media → (s : Store) → Among (stores_of d.media) s → StoresLater (stores_of d.media) (stores_of (change e.media)))
    → WorldMayBeLater w (settle (thrown_out v u change))
out-later w v u change kept here n s k = go (same-or-not n u)
  where
    there : (o : Option Device) → device w u ≡ o → Device-kept o (device v u) → Among (stores_at o) s → StoresLater (stores_at o) (stores_at (option_map {T = Device} (λ d. record d { media = change d.media; mounted = false }) (device v u)))
    there None e h k = absurd k
    there (Some d) e h k = subst (λ p. StoresLater (stores_of d.media) (stores_at (option_map {T = Device} (λ d. record d { media = change d.media; mounted = false }) p))) (sym h.1)
        (here d h.0 e h.1 h.2 s k)

    go : (n ≡ u) ⊎ (n ≡ u → ⊥) → StoresLater (stores_on w n) (stores_on (settle (thrown_out v u change)) n)
    go (inl is) = subst (λ x. StoresLater (stores_on w x) (stores_on (settle (thrown_out v u change)) x)) (sym is)
        (subst (λ o. StoresLater (stores_on w u) (stores_at o)) (sym (device-same v u (λ d. record d { media = change d.media; mounted = false })))
        (there (device w u) refl (kept u) (subst (λ x. Among (stores_on w x) s) is k)))
    go (inr differs) = subst (λ o. StoresLater (stores_on w n) (stores_at o)) (sym (device-other v u (λ d. record d { media = change d.media; mounted = false }) n differs)) (kept-later w v n (kept n) s k)

pub thrown-later : (w : World) (c : Command) (u : ℕ) → WorldMayBeLater w (world_thrown w c u)
thrown-later w c u = out-later w w u (torn w c u) (kept-not w) (λ d e is at h s k. subst (λ x. StoresLater (stores_of d.media) (stores_of (torn w c u x.media))) (some-same d e (sym is ∙ at)) (torn-later w c u d is s k))

moves-formats : (c : Command) (u n : ℕ) → moves_away c u ≡ true → is_format_of c n ≡ false
moves-formats (command.Format _ _ _) u n h = both-ways false h refl
moves-formats c u n h = refl

pub halfway-later : (w : World) (c : Command) (u : ℕ) → IsTrue (moves_away c u) → WorldMayBeLater w (world_halfway w c u)
halfway-later w c u moves = out-later w (changed w c) u (either_of (store_on_unit w u)) (λ n. row-kept w c n (moves-formats c u n moves))
    (λ d e is at h s k. go d.media e.media (store-by w u d is) h s k)
  where
    go : (m n : Media) → store_on_unit w u ≡ store_of m → Goes-on m n → (s : Store) → Among (stores_of m) s → StoresLater (stores_of m) (stores_of (either_of (store_on_unit w u) n))
    go blank n e h s k = absurd k
    go (one x) n e h s k = subst (λ o. StoresLater (x ∷ []) (stores_of (either_of o n))) (sym e) (subst (λ y. StoresLater (x ∷ []) (stores_of (either_of (Some x) y))) (sym h.1) (two-later x h.0 h.2))
    go (two a b) n e h s k = subst (λ o. StoresLater (a ∷ b ∷ []) (stores_of (either_of o n))) (sym e) (subst (λ y. StoresLater (a ∷ b ∷ []) (stores_of y)) (sym h) (stores-not (a ∷ b ∷ []) s k))
    go lost n e h s k = absurd k

-- ---- any step

pub step-later : (w : World) (c : Command) (v : World) (r : Reply) → Step w c v r → WorldMayBeLater w v
step-later w c v r (plain none is) = subst (λ (p : World × Reply). WorldMayBeLater w p.0) is (plain-later w c none)
step-later w c v r (found {u} {v = x} looks has is) = subst (λ (p : World × Reply). WorldMayBeLater w p.0) is (found-later w c u x looks has)
step-later w c v r (thrown {u} next is) = subst (WorldMayBeLater w) (sym next) (thrown-later w c u)
step-later w c v r (halfway {u} moves ok next is) = subst (WorldMayBeLater w) (sym next) (halfway-later w c u moves)
