-- An entry that is moved to another store: the cursors on the new entry are settled before the old one is removed, and then are settled for the world after both.
use Rattle.std.proofs.Common.{◌≡◌, refl, ap, sym, ◌∙◌, subst, ℕ, List, [], ◌∷◌, ◌⊎◌, inl, inr, Bool, true, false, cond, find, map, Option, Some, None, option_map, option_and_then, replicate, IsTrue, ◌==◌, if◌then◌else◌}
use Rattle.std.specs.Bool.{⊤}
use Rattle.std.specs.Prelude.{unwrap_or, Err}
use Rattle.std.proofs.lemmas.Bool.{eq-eqb, ne_eqb}
use Rattle.newt_spec_graph.specs.Lists.{Among, Each, Pairs}
use Rattle.newt_spec_graph.proofs.Lists.{each-at, none-some}
use Rattle.newt_spec_query.specs.Cursor.{Cursor, Place, same_identity, start, finish, on}
use Rattle.newt_spec_query.specs.Hits.{Hit, Query}
use Rattle.newt_spec_store.specs.Store.{Entry, Store, add_entry, change_soup, entry_at, entry_of, remove_entry}
use Rattle.newt_spec_store.specs.Valid.{well_formed}
use Rattle.newt_spec_world.specs.World.{World, change_media, change_store, hits_of, mounted_store, mounted_stores, on_unit}
use Rattle.newt_spec_world.specs.declared.command.Command.{Command}
use Rattle.newt_spec_world.specs.declared.command.Command.TheVariants as command
use Rattle.newt_laws_world.specs.Cursors.{uses_cursors, with_cursors}
use Rattle.newt_laws_world.specs.Settled.{MountedApart}
use Rattle.newt_laws_world.specs.Worlds.{has_form}
use Rattle.newt_laws_world.proofs.Fewer.{mounted-among}
use Rattle.newt_laws_world.proofs.Mounted.{apart-from-units, store-sigs, units-from-apart}
use Rattle.newt_laws_world.proofs.Units.{device-other, same-or-not}
use Rattle.newt_laws_answers.proofs.Units.{is-mounted, on-changed}
use Rattle.newt_laws_hits.specs.Located.{located_hit}
use Rattle.newt_laws_hits.proofs.Origins.{same-looked-up}
use Rattle.newt_laws_reach.specs.Reach.{Reach, entry_reached, in_soup, in_store, on_entry, reach, reaches, settle_reached, settle_where}
use Rattle.newt_store_change.specs.Faults.{Does, IsEnd}
use Rattle.newt_store_change.specs.declared.fault.StoreFault.{StoreFault}
use Rattle.newt_store_change.specs.declared.fault.StoreFault.TheVariants.{Refused, Stop as Ends}
use Rattle.newt_engine_hits.specs.Searched.{located_in}
use Rattle.newt_engine_units.specs.Found.{HasSoup}
use Rattle.newt_engine_commands.proofs.Moves.{WasAdded}
use Rattle.newt_engine_cursors.proofs.Reaches.{at-same}

-- all mounted stores are well formed
abbrev pub AreFormed : World → Type 0
AreFormed w = Each (λ s. IsTrue (well_formed s)) (mounted_stores w)

-- a move uses no cursor, and has its form
pub move_no_cursor : (u : ℕ) (name : List ℕ) (uid to : ℕ) (target : List ℕ) → uses_cursors (command.Move u name uid to target) ≡ false
unfolding uses_cursors
move_no_cursor u name uid to target = refl

pub move_form : (u : ℕ) (name : List ℕ) (uid to : ℕ) (target : List ℕ) → has_form (command.Move u name uid to target) ≡ true
unfolding has_form
move_form u name uid to target = refl

-- a removal is not refused
pub removal_ends : (a b v : World) (fault : StoreFault) → Does {T = ℕ} [] (λ _. ⊤) a b v (Err fault) → IsEnd fault
removal_ends a b v (Refused r) d = absurd (none-some r d.0)
removal_ends a b v (Ends stop) d = tt

-- a mounted store is found by its signature
pub found-one : (v : World) (to : ℕ) (s : Store) → MountedApart v → mounted_store v to ≡ Some s → find (λ t. t.sig == s.sig) (mounted_stores v) ≡ Some s
found-one v to s apart at = one (mounted_stores v) apart (mounted-among v.units s to at)
  where
    one : (ss : List Store) → Pairs (λ a b. a.sig ≡ b.sig → ⊥) ss → Among ss s → find (λ t. t.sig == s.sig) ss ≡ Some s
    one [] h m = absurd m
    one (x ∷ ss) h (inl e) = ap (λ (b : Bool). cond b (Some x) (find (λ t. t.sig == s.sig) ss)) (eq-eqb x.sig s.sig (ap (λ (t : Store). t.sig) e)) ∙ ap {A = Store} {B = Option Store} (λ t. Some t) e
    one (x ∷ ss) h (inr m) = ap (λ (b : Bool). cond b (Some x) (find (λ t. t.sig == s.sig) ss)) (ne_eqb x.sig s.sig (each-at (λ t. x.sig ≡ t.sig → ⊥) ss s h.0 m)) ∙ one ss h.1 m

-- ---- a store whose change is of another unit

module _ (y : World) (u : ℕ) (f : Store → Store) (keeps : (s : Store) → (f s).sig ≡ s.sig) (apart : MountedApart y) where
  pub kept-apart : MountedApart (change_store y u f)
  kept-apart = apart-from-units (change_store y u f).units (λ m n s t differ e g alike.
      let a = store-sigs y u f keeps m s e in
      let b = store-sigs y u f keeps n t g in
      units-from-apart y.units apart m n a.0 b.0 differ a.1 b.1 (sym a.2 ∙ alike ∙ b.2))

  stays : (n : ℕ) → (n ≡ u → ⊥) → mounted_store (change_store y u f) n ≡ mounted_store y n
  stays n other = ap on_unit (device-other y u (λ d. record d { media = change_media f d.media }) n other)

  module _ (to : ℕ) (s : Store) (there : mounted_store y to ≡ Some s) (differ : to ≡ u → ⊥) where
    there-then : mounted_store (change_store y u f) to ≡ Some s
    there-then = stays to differ ∙ there

    -- an entry of it is nowhere else
    none-else : (v : World) → MountedApart v → mounted_store v to ≡ Some s → (soup uid : ℕ) → entry_reached (on_entry s.sig soup uid) (mounted_store v u) ≡ None
    none-else v kept at soup uid = go (mounted_store v u) refl
      where
        go : (o : Option Store) → mounted_store v u ≡ o → entry_reached (on_entry s.sig soup uid) o ≡ None
        go None e = refl
        go (Some x) e = ap (λ (b : Bool). if b then entry_at soup uid x else None) (ne_eqb x.sig s.sig (λ same. units-from-apart v.units kept u to x s (λ i. differ (sym i)) e at same))

    pub entry-alike : (soup uid j : ℕ) → entry_reached (on_entry s.sig soup uid) (mounted_store y j) ≡ entry_reached (on_entry s.sig soup uid) (mounted_store (change_store y u f) j)
    entry-alike soup uid j = go (same-or-not j u)
      where
        go : (j ≡ u) ⊎ (j ≡ u → ⊥) → entry_reached (on_entry s.sig soup uid) (mounted_store y j) ≡ entry_reached (on_entry s.sig soup uid) (mounted_store (change_store y u f) j)
        go (inl is) = subst (λ n. entry_reached (on_entry s.sig soup uid) (mounted_store y n) ≡ entry_reached (on_entry s.sig soup uid) (mounted_store (change_store y u f) n)) (sym is)
            (none-else y apart there soup uid ∙ sym (none-else (change_store y u f) kept-apart there-then soup uid))
        go (inr other) = ap (entry_reached (on_entry s.sig soup uid)) (sym (stays j other))

    -- and neither is it found by its signature in another place
    pub found-alike : find (λ t. t.sig == s.sig) (mounted_stores y) ≡ find (λ t. t.sig == s.sig) (mounted_stores (change_store y u f))
    found-alike = found-one y to s apart there ∙ sym (found-one (change_store y u f) to s kept-apart there-then)

-- ---- cursors on entries of a store that is the same in two worlds

module _ (y z : World) (y_apart : MountedApart y) (z_apart : MountedApart z) (y_formed : AreFormed y) (z_formed : AreFormed z) (store : ℕ)
    (same : find (λ s. s.sig == store) (mounted_stores y) ≡ find (λ s. s.sig == store) (mounted_stores z)) (soup uid : ℕ) where
  hit-alike : (q : Query) (at : Hit) → at.store ≡ store → find (same_identity at) (hits_of y q) ≡ find (same_identity at) (hits_of z q)
  hit-alike q at is = same-looked-up (mounted_stores y) y_apart y_formed q at
      ∙ ap (λ (o : Option Store). option_and_then (located_hit q) (option_and_then (λ s. located_in s at.soup at.uid) o))
      (subst (λ (n : ℕ). find (λ s. s.sig == n) (mounted_stores y) ≡ find (λ s. s.sig == n) (mounted_stores z)) (sym is) same)
      ∙ sym (same-looked-up (mounted_stores z) z_apart z_formed q at)

  settle-alike : (k : Cursor) → settle_where (on_entry store soup uid) y k ≡ settle_where (on_entry store soup uid) z k
  settle-alike k = go k.query k.place
    where
      go : (q : Query) (p : Place) → settle_where (on_entry store soup uid) y (record { query = q; place = p }) ≡ settle_where (on_entry store soup uid) z (record { query = q; place = p })
      go q start = refl
      go q finish = refl
      go q (on at) = test (reaches (on_entry store soup uid) at) refl
        where
          settled_at : Option Hit → Cursor
          settled_at o = record { query = q; place = unwrap_or (option_map on o) (on at) }

          test : (b : Bool) → reaches (on_entry store soup uid) at ≡ b → cond b (settled_at (find (same_identity at) (hits_of y q))) (record { query = q; place = on at })
              ≡ cond b (settled_at (find (same_identity at) (hits_of z q))) (record { query = q; place = on at })
          test false e = refl
          test true e = ap settled_at (hit-alike q at (at-same store soup uid at e).0)

  pub cursors-alike : (ks : List (Option Cursor)) → map (option_map (settle_where (on_entry store soup uid) y)) ks ≡ map (option_map (settle_where (on_entry store soup uid) z)) ks
  cursors-alike [] = refl
  cursors-alike (None ∷ ks) = ap (λ (xs : List (Option Cursor)). None ∷ xs) (cursors-alike ks)
  cursors-alike (Some k ∷ ks) = λ i. Some (settle-alike k i) ∷ cursors-alike ks i

-- ---- an entry that was added, and then is removed

module _ (w : World) (u to : ℕ) (name target : List ℕ) (sig into uid : ℕ) (h : HasSoup w u name sig) (k : HasSoup w to target into) (none : w.cursors ≡ replicate 32 None)
    (e : Entry) (found : entry_of uid h.soup ≡ Some e) (differ : to ≡ u → ⊥) (apart : MountedApart w) where
  abbrev c : Command
  c = command.Move u name uid to target

  abbrev add : Store → Store
  add = change_soup k.soup.name (add_entry w.minute e.graph)

  abbrev without : Store → Store
  without = change_soup h.soup.name (remove_entry uid)

  reach-is : reach w c ≡ on_entry k.store.sig into k.soup.next_uid
  unfolding reach
  reach-is = ap (in_store (λ s p. on_entry s.sig p.sig p.next_uid) target) (is-mounted w to k.blocks k.store k.on) ∙ ap (in_soup (λ p. on_entry k.store.sig p.sig p.next_uid)) k.named
      ∙ ap (λ n. on_entry k.store.sig n k.soup.next_uid) k.sig_is

  module _ (now : World) (n : ℕ) (was : WasAdded w u to name target sig into uid h k none e found differ now n) where
    pub added-apart : MountedApart now
    added-apart = subst MountedApart (sym was.world) (kept-apart w to add (λ s. refl) apart)

    pub added-reached : on_entry k.store.sig into n ≡ reach w c
    added-reached = ap (on_entry k.store.sig into) was.number ∙ sym reach-is

    pub added-there : mounted_store now to ≡ Some (add k.store)
    added-there = ap (λ (v : World). mounted_store v to) was.world ∙ is-mounted (change_store w to add) to k.blocks (add k.store) (on-changed w to k.blocks k.store add k.on)

    abbrev later : World
    later = change_store now u without

    -- the entry is in the same pages
    pub pages-alike : (j : ℕ) → entry_reached (on_entry k.store.sig into n) (mounted_store now j) ≡ entry_reached (on_entry k.store.sig into n) (mounted_store later j)
    pages-alike = entry-alike now u without (λ s. refl) added-apart to (add k.store) added-there differ into n

    -- and the cursors that are settled are settled still
    pub settled-still : AreFormed now → AreFormed later → (ks ls : List (Option Cursor)) (x : World) → with_cursors ls x ≡ settle_reached (on_entry k.store.sig into n) (with_cursors ks now)
        → with_cursors ls later ≡ settle_reached (reach w c) (with_cursors ks later)
    settled-still formed formed_later ks ls x is = ap (λ cs. with_cursors cs later)
        (ap (λ (v : World). v.cursors) is
        ∙ cursors-alike now later added-apart (kept-apart now u without (λ s. refl) added-apart) formed formed_later k.store.sig (found-alike now u without (λ s. refl) added-apart to (add k.store) added-there differ) into n ks)
        ∙ ap (λ (r : Reach). settle_reached r (with_cursors ks later)) added-reached
