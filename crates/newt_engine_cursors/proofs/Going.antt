-- Going to the hit of an entry.
use Rattle.std.proofs.Common.{◌≡◌, refl, ap, sym, ◌∙◌, subst, ℕ, List, [], ◌∷◌, Bool, true, false, ◌&&◌, ◌==◌, find, Option, Some, None, option_map, option_and_then, IsTrue}
use Rattle.std.specs.Prelude.{Result, Err, is_none}
use Rattle.newt_base.specs.Refusals.{Checks, first_of}
use Rattle.newt_base.specs.declared.Refusal.{Refusal}
use Rattle.newt_base.specs.declared.Refusal.TheVariants.{Cursor as NoCursor, Entry as NoEntry}
use Rattle.newt_host.specs.Outside.{Outside}
use Rattle.newt_spec_graph.specs.Lists.{Each}
use Rattle.newt_spec_graph.proofs.Lists.{none-some, some-same}
use Rattle.newt_spec_store.specs.Store.{Store, Soup, Entry, soup_named, entry_of, soup_of}
use Rattle.newt_spec_store.specs.Valid.{well_formed}
use Rattle.newt_spec_query.specs.Hits.{Query, Hit}
use Rattle.newt_spec_query.specs.Cursor.{Cursor, on}
use Rattle.newt_spec_world.specs.declared.command.Command.TheVariants as command
use Rattle.newt_spec_world.specs.Reply.{Reply}
use Rattle.newt_spec_world.specs.World.{World, cursor, hits_of, mounted, mounted_stores, set_place, settle, soup_in}
use Rattle.newt_spec_world.specs.Changed.{changed, hit_for, hit_in, put_on, sig_of}
use Rattle.newt_spec_world.specs.Refused.{checks, no_cursor, not_a_hit, no_unit, not_mounted, on_some}
use Rattle.newt_spec_world.specs.Alias.{Spot, resolved}
use Rattle.newt_spec_world.specs.Answer.{answer, current, fields, or_nil}
use Rattle.newt_laws_answers.specs.Fetched.{pages_shown}
use Rattle.newt_laws_world.specs.Settled.{IsSettled, MountedApart, moves_keys}
use Rattle.newt_laws_answers.specs.Tests.{unit_checks}
use Rattle.newt_laws_answers.specs.There.{OnUnit}
use Rattle.newt_laws_answers.proofs.Answers.{unit-passes}
use Rattle.newt_laws_answers.proofs.Units.{is-mounted}
use Rattle.newt_laws_hits.specs.Located.{Located, located, looked_up, located_hit as hit_at}
use Rattle.newt_laws_hits.proofs.Origins.{looked-up-is, same-looked-up, named-looked-up}
use Rattle.newt_store_change.specs.declared.fault.StoreFault.{StoreFault}
use Rattle.newt_store_change.specs.declared.fault.StoreFault.TheVariants.{Refused, Stop}
use Rattle.newt_engine_units.specs.declared.units.Units.{Units}
use Rattle.newt_store_change.specs.Faults.{RefusesBy}
use Rattle.newt_engine_units.specs.Stands.{Stands, Eight, card_at, world_of}
use Rattle.newt_engine_units.proofs.Known.{Laws, bare-sig, card-known, none-mounted}
use Rattle.newt_spec_store.specs.Keys.{Key}
use Rattle.newt_engine_hits.specs.Present.{IsPresent, Present, identity, present_in, with_entry}
use Rattle.newt_engine_hits.specs.declared.present.Present as code
use Rattle.newt_engine_cursors.proofs.Standing.{present-keys}
use Rattle.newt_engine_units.specs.Answers.{Answers}
use Rattle.newt_engine_cursors.specs.Calls.{Shows}
use Rattle.newt_engine_cursors.specs.Replies.{shown_at, shown_reply}
use Rattle.newt_engine_cursors.specs.declared.show.Shown.{Shown}
use Rattle.newt_engine_cursors.proofs.Answered.{refused-answer, done-answer}
use Rattle.newt_engine_cursors.proofs.Answering.{shown-answers, no-cursor, one-cursor}
use Rattle.newt_engine_hits.proofs.Stores.{find-store}

-- ---- the command

first-early : (a b : Bool) (s t r : Refusal) (more : Checks) → first_of ((s, a) ∷ (t, b) ∷ []) ≡ Some r → first_of ((s, a) ∷ (t, b) ∷ more) ≡ Some r
first-early true b s t r more h = h
first-early false true s t r more h = h
first-early false false s t r more h = absurd (none-some r h)

module _ (w : World) (n u uid : ℕ) where
  goto-tests : checks w (command.Goto n u uid) ≡ no_unit w u ∷ not_mounted w u ∷ no_cursor w n ∷ not_a_hit w n u uid ∷ []
  unfolding checks
  goto-tests = refl

  goto-does : changed w (command.Goto n u uid) ≡ put_on w n (option_and_then (hit_for w u uid) (cursor w n))
  unfolding changed
  goto-does = refl

  goto-shows : (v : World) → fields w v (command.Goto n u uid) ≡ or_nil (current v) (cursor v n)
  unfolding fields
  goto-shows v = refl

  pub goto-few : moves_keys (command.Goto n u uid) ≡ false
  unfolding moves_keys
  goto-few = refl

  no-unit-goto : (r : Refusal) → first_of (unit_checks w u) ≡ Some r → answer w (command.Goto n u uid) ≡ (w, Reply.refused r)
  no-unit-goto r h = refused-answer w (command.Goto n u uid) r
      (ap first_of goto-tests ∙ first-early (no_unit w u).1 (not_mounted w u).1 (no_unit w u).0 (not_mounted w u).0 r (no_cursor w n ∷ not_a_hit w n u uid ∷ []) h)

  -- no store is mounted on the unit
  pub unit-faults : (known : Checks) → known ≡ unit_checks w u → (fault : StoreFault) → RefusesBy known fault → (r : Result Shown StoreFault) → r ≡ Err fault → Answers w w (command.Goto n u uid) shown_reply r
  unit-faults known same fault h r is = subst (λ r. Answers w w (command.Goto n u uid) shown_reply r) (sym is) (go fault h)
    where
      go : (fault : StoreFault) → RefusesBy known fault → Answers w w (command.Goto n u uid) shown_reply (Err fault)
      go (Refused r) h = no-unit-goto r (ap first_of (sym same) ∙ h)
      go (Stop stop) h = tt

  -- a store is
  module _ (blocks : ℕ) (s : Store) (there : OnUnit w u blocks s) where
    tested : first_of (checks w (command.Goto n u uid)) ≡ first_of (no_cursor w n ∷ not_a_hit w n u uid ∷ [])
    tested = ap first_of goto-tests ∙ unit-passes w u blocks s (no_cursor w n ∷ not_a_hit w n u uid ∷ []) there

    pub no-cursor-goto : is_none (cursor w n) ≡ true → answer w (command.Goto n u uid) ≡ (w, Reply.refused NoCursor)
    no-cursor-goto e = refused-answer w (command.Goto n u uid) NoCursor (tested ∙ no-cursor w n (not_a_hit w n u uid ∷ []) e)

    module _ (k : Cursor) (open_one : cursor w n ≡ Some k) where
      hit-tested : first_of (checks w (command.Goto n u uid)) ≡ first_of ((NoEntry, is_none (hit_for w u uid k)) ∷ [])
      hit-tested =
          tested ∙ one-cursor w n (not_a_hit w n u uid ∷ []) (ap is_none open_one)
          ∙ ap (λ (o : Option Cursor). first_of ((NoEntry, on_some o (λ k. is_none (hit_for w u uid k))) ∷ [])) open_one

      pub no-hit-goto : hit_for w u uid k ≡ None → answer w (command.Goto n u uid) ≡ (w, Reply.refused NoEntry)
      no-hit-goto e = refused-answer w (command.Goto n u uid) NoEntry (hit-tested ∙ ap (λ (o : Option Hit). first_of ((NoEntry, is_none o) ∷ [])) e)

      module _ (h : Hit) (e : hit_for w u uid k ≡ Some h) where
        pub goto-does-so : changed w (command.Goto n u uid) ≡ set_place w n (on h)
        goto-does-so = goto-does ∙ ap (λ (o : Option Cursor). put_on w n (option_and_then (hit_for w u uid) o)) open_one ∙ ap (put_on w n) e

        passes : first_of (checks w (command.Goto n u uid)) ≡ None
        passes = hit-tested ∙ ap (λ (o : Option Hit). first_of ((NoEntry, is_none o) ∷ [])) e

        pub hit-goto : IsSettled (set_place w n (on h)) → (v : World) (shown : Shown) → Shows (set_place w n (on h)) v n shown → answer w (command.Goto n u uid) ≡ (v, shown_reply shown)
        hit-goto settled v shown s = shown-answers w v (set_place w n (on h)) (command.Goto n u uid) n shown passes goto-does-so goto-shows settled s

        pub goto-pages : IsSettled (set_place w n (on h)) → (m : ℕ) → pages_shown (shown_at (set_place w n (on h)) n) m ≡ pages_shown (answer w (command.Goto n u uid)).1 m
        goto-pages settled m = sym
            (ap (λ (a : World × Reply). pages_shown a.1 m) (done-answer w (set_place w n (on h)) (command.Goto n u uid) passes goto-does-so)
            ∙ ap (λ (r : Reply). pages_shown r m) (goto-shows (settle (set_place w n (on h))))
            ∙ ap (λ (v : World). pages_shown (shown_at v n) m) settled)

-- ---- the soup on a unit

module _ {C : Type 0} {reads : List ℕ → Option Store} {place : C → ℕ} {soups : C → Store} {stands : Bool → C → Outside → Type 0} (l : Laws reads place soups stands)
    (units : Units C) (o : Outside) (e : Eight o) (s : Stands place stands true units o) (u : ℕ) (name : List ℕ) where
  abbrev w : World
  w = world_of reads units o

  abbrev on_it : Option Store → Option (ℕ × ℕ)
  on_it m = option_map {U = ℕ × ℕ} (λ p. (elim m [ None ↦ 0 | Some s ↦ s.sig ], p.sig)) (option_and_then (soup_named name) m)

  pub no-soup-on : card_at units.slots.items u ≡ None → None ≡ option_map {U = ℕ × ℕ} (λ (p : Soup). (sig_of w u, p.sig)) (soup_in w u name)
  no-soup-on h = sym (ap on_it (none-mounted l units o e s u h))

  pub soup-on : (card : C) → card_at units.slots.items u ≡ Some card
      → option_map {U = ℕ × ℕ} (λ (n : ℕ). ((soups card).sig, n)) (option_map (λ (p : Soup). p.sig) (soup_named name (soups card))) ≡ option_map {U = ℕ × ℕ} (λ (p : Soup). (sig_of w u, p.sig)) (soup_in w u name)
  soup-on card h =
      let k = card-known l units o e s u card h in
      ap (λ (t : Store). option_map {U = ℕ × ℕ} (λ (n : ℕ). (t.sig, n)) (option_map (λ (p : Soup). p.sig) (soup_named name t))) (sym k.known)
      ∙ ap (option_map {U = ℕ × ℕ} (λ (n : ℕ). (k.store.sig, n))) (bare-sig name k.store) ∙ both k.store.sig (soup_named name k.store)
      ∙ sym (ap on_it (is-mounted w u (o.blocks u) k.store k.on))
    where
      both : (sig : ℕ) (p : Option Soup) → option_map {U = ℕ × ℕ} (λ (n : ℕ). (sig, n)) (option_map (λ (p : Soup). p.sig) p) ≡ option_map {U = ℕ × ℕ} (λ (p : Soup). (sig, p.sig)) p
      both sig None = refl
      both sig (Some p) = refl

-- ---- the hit

module _ (w : World) (store soup uid : ℕ) where
  resolved-there : (f : Located) → located (mounted_stores w) store soup uid ≡ Some f → (x : Spot) × (resolved w (record { store = store; soup = soup; uid = uid }) ≡ Some x)
  resolved-there f e = on_store (find (λ m. m.1.sig == store) (mounted w)) (sym (ap (option_and_then in_it) (find-store store 0 w.units)) ∙ e)
    where
      in_it : Store → Option Located
      in_it s = option_and_then (λ p. option_map (λ e. record { store = s; soup = p; entry = e }) (entry_of uid p)) (soup_of soup s)

      on_entry : (v : ℕ) (s : Store) (p : Soup) (o : Option Entry) → option_map {U = Located} (λ e. record { store = s; soup = p; entry = e }) o ≡ Some f
          → (x : Spot) × (option_map {U = Spot} (λ e. record { unit = v; soup = p; entry = e }) o ≡ Some x)
      on_entry v s p None e = absurd (none-some f e)
      on_entry v s p (Some y) e = (record { unit = v; soup = p; entry = y }, refl)

      on_soup : (v : ℕ) (s : Store) (o : Option Soup) → option_and_then {U = Located} (λ p. option_map (λ e. record { store = s; soup = p; entry = e }) (entry_of uid p)) o ≡ Some f
          → (x : Spot) × (option_and_then {U = Spot} (λ p. option_map (λ e. record { unit = v; soup = p; entry = e }) (entry_of uid p)) o ≡ Some x)
      on_soup v s None e = absurd (none-some f e)
      on_soup v s (Some p) e = on_entry v s p (entry_of uid p) e

      on_store : (m : Option (ℕ × Store)) → option_and_then in_it (option_map (λ (m : ℕ × Store). m.1) m) ≡ Some f
          → (x : Spot) × (option_and_then {U = Spot} (λ m. option_and_then (λ p. option_map (λ e. record { unit = m.0; soup = p; entry = e }) (entry_of uid p)) (soup_of soup m.1)) m ≡ Some x)
      on_store None e = absurd (none-some f e)
      on_store (Some m) e = on_soup m.0 m.1 (soup_of soup m.1) e

-- the hit of an identity, of a hit of the code
abbrev pub seen_made : ℕ → ℕ → ℕ → code.Present → Hit
seen_made store soup uid p = record { key = p.key; store = store; soup = soup; uid = uid }

-- the hit of an identity
abbrev pub made : ℕ → ℕ → ℕ → Present → Hit
made store soup uid p = record { key = p.key; store = store; soup = soup; uid = uid }

module _ (w : World) (q : Query) (store soup uid : ℕ) (apart : MountedApart w) (formed : Each (λ s. IsTrue (well_formed s)) (mounted_stores w)) where
  pub found-hit : (o : Option Present) → o ≡ present_in w q (identity store soup uid)
      → option_map (made store soup uid) o ≡ find (λ (h : Hit). (h.store == store) && (h.soup == soup) && (h.uid == uid)) (hits_of w q)
  found-hit o e =
      go (looked_up (mounted_stores w) q store soup uid) refl (e ∙ ap (option_and_then (with_entry w)) (same-looked-up (mounted_stores w) apart formed q (identity store soup uid)))
      ∙ sym (named-looked-up (mounted_stores w) apart formed q store soup uid)
    where
      there : (h : Hit) → looked_up (mounted_stores w) q store soup uid ≡ Some h → (x : Spot) × (resolved w (record { store = store; soup = soup; uid = uid }) ≡ Some x)
      there h i = by (located (mounted_stores w) store soup uid) refl i
        where
          by : (f : Option Located) → located (mounted_stores w) store soup uid ≡ f → option_and_then (hit_at q) f ≡ Some h
              → (x : Spot) × (resolved w (record { store = store; soup = soup; uid = uid }) ≡ Some x)
          by None j i = absurd (none-some h i)
          by (Some f) j i = resolved-there w store soup uid f j

      go : (l : Option Hit) → looked_up (mounted_stores w) q store soup uid ≡ l → o ≡ option_and_then (with_entry w) l → option_map (made store soup uid) o ≡ l
      go None i x = ap (option_map (made store soup uid)) x
      go (Some h) i x =
          let d = (looked-up-is (mounted_stores w) q store soup uid h i).1 in
          let r = there h i in
          ap (option_map (made store soup uid)) (x ∙ ap (option_map (λ (s : Spot). record { unit = s.unit; key = h.key; entry = s.entry }))
          ((λ i. resolved w (record { store = d.store_is i; soup = d.soup_is i; uid = d.uid_is i })) ∙ r.1))
          ∙ (λ i. Some (record { key = h.key; store = sym d.store_is i; soup = sym d.soup_is i; uid = sym d.uid_is i }))

-- ---- the hit on a unit

module _ (w : World) (u uid : ℕ) (k : Cursor) (q : Query) (same : k.query ≡ q) where
  pub no-spot : None ≡ option_map {U = ℕ × ℕ} (λ (p : Soup). (sig_of w u, p.sig)) (soup_in w u q.name) → None ≡ hit_for w u uid k
  no-spot e = go (soup_in w u q.name) e ∙ ap (λ (q : Query). hit_in w u uid k (soup_in w u q.name)) (sym same)
    where
      go : (o : Option Soup) → None ≡ option_map {U = ℕ × ℕ} (λ (p : Soup). (sig_of w u, p.sig)) o → None ≡ hit_in w u uid k o
      go None e = refl
      go (Some p) e = absurd (none-some (sig_of w u, p.sig) e)

  pub found-spot : (store soup : ℕ) → Some (store, soup) ≡ option_map {U = ℕ × ℕ} (λ (p : Soup). (sig_of w u, p.sig)) (soup_in w u q.name) → MountedApart w
      → Each (λ s. IsTrue (well_formed s)) (mounted_stores w) → (x : Option Present) → x ≡ present_in w q (identity store soup uid) → option_map (made store soup uid) x ≡ hit_for w u uid k
  found-spot store soup e apart formed x h = go (soup_in w u q.name) e ∙ ap (λ (q : Query). hit_in w u uid k (soup_in w u q.name)) (sym same)
    where
      go : (o : Option Soup) → Some (store, soup) ≡ option_map {U = ℕ × ℕ} (λ (p : Soup). (sig_of w u, p.sig)) o → option_map (made store soup uid) x ≡ hit_in w u uid k o
      go None e = absurd (none-some (store, soup) (sym e))
      go (Some p) e =
          let t = some-same (store, soup) (sig_of w u, p.sig) e in
          found-hit w q store soup uid apart formed x h
          ∙ (λ i. find (λ (h : Hit). (h.store == (t i).0) && (h.soup == (t i).1) && (h.uid == uid)) (hits_of w (sym same i)))

  -- the same of a hit of the code
  pub present-spot : (store soup : ℕ) → Some (store, soup) ≡ option_map {U = ℕ × ℕ} (λ (p : Soup). (sig_of w u, p.sig)) (soup_in w u q.name) → MountedApart w
      → Each (λ s. IsTrue (well_formed s)) (mounted_stores w) → (found : Option code.Present) → IsPresent found (present_in w q (identity store soup uid))
      → option_map (seen_made store soup uid) found ≡ hit_for w u uid k
  present-spot store soup e apart formed found is =
      made-seen found ∙ ap (option_map (λ (key : Key). record { key = key; store = store; soup = soup; uid = uid })) (present-keys found (present_in w q (identity store soup uid)) is)
      ∙ seen-made (present_in w q (identity store soup uid)) ∙ found-spot store soup e apart formed (present_in w q (identity store soup uid)) refl
    where
      made-seen : (o : Option code.Present) → option_map (seen_made store soup uid) o
          ≡ option_map {U = Hit} (λ (key : Key). record { key = key; store = store; soup = soup; uid = uid }) (option_map (λ (p : code.Present). p.key) o)
      made-seen None = refl
      made-seen (Some p) = refl

      seen-made : (o : Option Present) → option_map {U = Hit} (λ (key : Key). record { key = key; store = store; soup = soup; uid = uid }) (option_map (λ (p : Present). p.key) o)
          ≡ option_map (made store soup uid) o
      seen-made None = refl
      seen-made (Some p) = refl
