-- What no note tells of has not changed, where devices may fail.
use Rattle.std.proofs.Common.{◌≡◌, ◌⊎◌, inl, inr, refl, ap, sym, ◌∙◌, subst, ℕ, ◌&&◌, arith, List, [], ◌∷◌, ◌++◌, true, false, Bool, cond, Option, Some, None, is_none, option_map, option_and_then, take, if◌then◌else◌}
use Rattle.std.specs.Prelude.{is_some, slice_get, length, filter, Ok, Err}
use Rattle.std.proofs.lemmas.Bool.{eqb-true}
use Rattle.std.proofs.lemmas.Bool.Decides.{Decides-eqb}
use Rattle.newt_base.specs.Refusals.{first_of}
use Rattle.newt_base.specs.declared.Refusal.{Refusal}
use Rattle.newt_graph.specs.Graph.{RawGraph}
use Rattle.newt_spec_graph.specs.Lists.{Among}
use Rattle.newt_spec_graph.proofs.Lists.{both-ways, none-some, some-same}
use Rattle.newt_spec_script.specs.Rows.{IsRun, Row, thrown_count, throws, last_world}
use Rattle.newt_spec_script.specs.Script.{Item}
use Rattle.newt_spec_store.specs.Store.{Entry, Soup, Store, change_entry, change_soup, remove_entry, soup_named, with_graph}
use Rattle.newt_spec_world.specs.Alias.{Spot}
use Rattle.newt_spec_world.specs.Answer.{answer}
use Rattle.newt_spec_world.specs.Changed.{changed, copy_to}
use Rattle.newt_spec_world.specs.Refused.{bad_blocks, checks, is_mounted, no_unit}
use Rattle.newt_spec_world.specs.Reply.{Reply}
use Rattle.newt_spec_world.specs.Step.{Found, MayTurnOut, either_of, is_format_of, look_checks, looks_anew, may_tear, moves_away, store_after, thrown_out, torn, world_halfway, world_thrown}
use Rattle.newt_spec_world.specs.World.{World, Device, Media, blank, one, two, lost, change_media, device, entry_in, settle, store_of, store_on_unit, stores_of, unsure_on}
use Rattle.newt_spec_world.specs.World as worlds
use Rattle.newt_spec_world.specs.declared.command.Command.{Command}
use Rattle.newt_spec_world.specs.declared.command.Command.TheVariants as command
use Rattle.newt_work.specs.Work.{Copy}
use Rattle.newt_laws_steps.proofs.Kept.{Device-kept, Goes-on, KeptOn, answer-kept, row-kept, stores-by}
use Rattle.newt_laws_world.specs.Worlds.{is_plain}
use Rattle.newt_laws_world.proofs.Kept.{AllFalse, all-false, changed-units, on_units}
use Rattle.newt_laws_world.proofs.Units.{device-other, device-same, same-or-not}
use Rattle.newt_spec_whole.specs.Answer.{whole_answer, whole_answered}
use Rattle.newt_spec_whole.specs.Events.{events, events_of}
use Rattle.newt_spec_whole.specs.Refused.{whole_checks}
use Rattle.newt_spec_whole.specs.Step.{WholeStep, plain, found, thrown, halfway}
use Rattle.newt_spec_whole.specs.Whole.{Whole, asks, change_of, copy, get_of, in_world, living, stores_on}
use Rattle.newt_laws_whole.specs.Since.{if_done}
use Rattle.newt_laws_whole.specs.Steps.{notes_of, notes_after, noting, told_by}
use Rattle.newt_laws_whole.specs.Told.{KeepEntries, entries_named, entries_on, told_in, told_to}
use Rattle.newt_laws_whole.proofs.Asking.{other-steps}
use Rattle.newt_laws_whole.proofs.Plain.{plain-answer}
use Rattle.newt_laws_whole.proofs.RunCopies.{answer-good, is_thrown}
use Rattle.newt_laws_whole.proofs.RunWatched.{answer-by, plain-by}
use Rattle.newt_laws_whole.proofs.Watched.{told-more}
use Rattle.newt_laws_whole.proofs.Sound.{whole-later}
use Rattle.newt_laws_whole.proofs.Telling.{answer-notes, away, halfway-notes, looked, looked-none, none-done}
use Rattle.newt_laws_whole.proofs.Untold.{copy-apart, soup-apart, told-apart, untold-kept}
use Rattle.newt_laws_steps.proofs.Standing.{is-accepted}

-- the stores that a device may have, or none
abbrev stores_at : Option Device → List Store
stores_at o = elim o [ None ↦ [] | Some d ↦ stores_of d.media ]

-- ---- one command of the world

module _ (name : List ℕ) where
  keeps-all : (ss : List Store) → KeepEntries name ss ss
  keeps-all ss t k = (t, k, refl)

  keeps-same : (before after : List Store) → after ≡ before → KeepEntries name before after
  keeps-same before after e = subst (KeepEntries name before) (sym e) (keeps-all before)

  keeps-trans : (ls ms ns : List Store) → KeepEntries name ls ms → KeepEntries name ms ns → KeepEntries name ls ns
  keeps-trans ls ms ns h k t m = let q = k t m in let p = h q.0 q.1 in (p.0, p.1, q.2 ∙ p.2)

  -- a unit that goes on, and whose known store has the entries that it had
  kept-entries : (w v : World) (u : ℕ) → KeptOn w v u → entries_on v u name ≡ entries_on w u name → KeepEntries name (worlds.stores_on w u) (worlds.stores_on v u)
  kept-entries w v u kept same = go (device w u) (device v u) kept same
    where
      of : Option Device → Option (List Entry)
      of o = option_map (λ (p : Soup). p.entries) (option_and_then (soup_named name) (option_and_then (λ (d : Device). store_of d.media) o))

      media : (m n : Media) → Goes-on m n → option_map (λ (p : Soup). p.entries) (option_and_then (soup_named name) (store_of n)) ≡ option_map (λ (p : Soup). p.entries) (option_and_then (soup_named name) (store_of m))
          → KeepEntries name (stores_of m) (stores_of n)
      media blank n g e = keeps-same [] (stores_of n) (ap stores_of g)
      media (one s) n g e = subst (λ (x : Media). KeepEntries name (s ∷ []) (stores_of x)) (sym g.1) single
        where
          single : KeepEntries name (s ∷ []) (g.0 ∷ [])
          single t (inl is) = (
            s,
            inl refl,
            ap (entries_named name) (sym is)
                ∙ sym (ap (λ (x : Media). option_map (λ (p : Soup). p.entries) (option_and_then (soup_named name) (store_of x))) g.1) ∙ e,
          )
          single t (inr k) = absurd k
      media (two a b) n g e = keeps-same (a ∷ b ∷ []) (stores_of n) (ap stores_of g)
      media lost n g e = keeps-same [] (stores_of n) (ap stores_of g)

      go : (o p : Option Device) → Device-kept o p → of p ≡ of o → KeepEntries name (stores_at o) (stores_at p)
      go None p kept e = keeps-same [] (stores_at p) (ap stores_at kept)
      go (Some d) p kept e = subst (λ (x : Option Device). KeepEntries name (stores_of d.media) (stores_at x)) (sym kept.1)
          (media d.media kept.0.media kept.2 (sym (ap of kept.1) ∙ e))

-- a format is accepted only of a unit of which no store is known
format-none : (w : World) (c : Command) (n : ℕ) → first_of (checks w c) ≡ None → is_format_of c n ≡ true → is_some (store_on_unit w n) ≡ false
unfolding checks
format-none w (command.Format u label sig) n ok is =
    ap (λ (m : ℕ). is_some (store_on_unit w m)) (sym (eqb-true u n is)) ∙ (all-false (checks w (command.Format u label sig)) ok).1.1.1.0
format-none w _ n ok is = absurd (both-ways is)

-- and of one of two only where that is looked at anew
format-sure : (w : World) (c : Command) (n : ℕ) → looks_anew w c ≡ None → first_of (checks w c) ≡ None → is_format_of c n ≡ true → unsure_on w n ≡ false
unfolding checks
format-sure w (command.Format u label sig) n none ok is = go (unsure_on w u) refl
  where
    tests : AllFalse (checks w (command.Format u label sig))
    tests = all-false (checks w (command.Format u label sig)) ok

    passed : (a b c : Bool) → a ≡ false → b ≡ false → c ≡ false → (r q p : Refusal) → first_of ((r, a) ∷ (q, b) ∷ (p, c) ∷ []) ≡ None
    passed false false false h k l r q p = refl
    passed true b c h k l r q p = absurd (both-ways (sym h))
    passed false true c h k l r q p = absurd (both-ways (sym k))
    passed false false true h k l r q p = absurd (both-ways (sym l))

    clear : first_of (look_checks w u) ≡ None
    clear = passed (no_unit w u).1 (bad_blocks w u).1 (is_mounted w u).1 tests.0 tests.1.0 tests.1.1.0 (no_unit w u).0 (bad_blocks w u).0 (is_mounted w u).0

    go : (b : Bool) → unsure_on w u ≡ b → unsure_on w n ≡ false
    go false e = ap (unsure_on w) (sym (eqb-true u n is)) ∙ e
    go true e = absurd (none-some u (sym none ∙ ap (λ (o : Option Refusal). let x : Option ℕ = if is_none o && unsure_on w u then Some u else None in x) clear
        ∙ ap (λ (b : Bool). let x : Option ℕ = if b then Some u else None in x) e))
format-sure w _ n none ok is = absurd (both-ways is)

-- so it is none of a unit that has a store, or one of two
no-format : (w : World) (c : Command) (n : ℕ) (s : Store) → (first_of (checks w c) ≡ None → is_format_of c n ≡ true → unsure_on w n ≡ false) → Among (worlds.stores_on w n) s
    → first_of (checks w c) ≡ None → is_format_of c n ≡ false
no-format w c n s sure k ok = go (is_format_of c n) refl
  where
    at : Option Device → Bool
    at o = elim o [ None ↦ false | Some d ↦ worlds.is_unsure d.media ]

    media : (m : Media) → worlds.is_unsure m ≡ false → is_some (store_of m) ≡ false → Among (stores_of m) s → ⊥
    media blank e f k = k
    media (one t) e f k = both-ways (sym f)
    media (two a b) e f k = both-ways (sym e)
    media lost e f k = k

    none : (o : Option Device) → at o ≡ false → is_some (option_and_then (λ (d : Device). store_of d.media) o) ≡ false → Among (stores_at o) s → ⊥
    none None e f k = k
    none (Some d) e f k = media d.media e f k

    go : (b : Bool) → is_format_of c n ≡ b → is_format_of c n ≡ false
    go false e = e
    go true e = absurd (none (device w n) (sure ok e) (format-none w c n ok e) k)

-- a command that is answered
answer-keeps : (name : List ℕ) (w : World) (c : Command) (u : ℕ) (s : Store) → (first_of (checks w c) ≡ None → is_format_of c u ≡ true → unsure_on w u ≡ false) → Among (worlds.stores_on w u) s
    → told_to name (notes_of w c) ≡ [] → KeepEntries name (worlds.stores_on w u) (worlds.stores_on (answer w c).0 u)
answer-keeps name w c u s sure k none = kept-entries name w (answer w c).0 u (answer-kept w c u (no-format w c u s sure k)) (untold-kept w c u name none)

-- ---- a unit that is found

turns-keep : (name : List ℕ) (blocks : ℕ) (m n : Media) → MayTurnOut blocks m n → (s : Store) → Among (stores_of m) s
    → KeepEntries name (stores_of m) (stores_of n) × ((t : Store) × Among (stores_of n) t) × (worlds.is_unsure n ≡ false)
turns-keep name blocks blank n h s k = absurd k
turns-keep name blocks (one x) n h s k = absurd h
turns-keep name blocks (two a b) n (inl e) s k =
    subst (λ (x : Media). KeepEntries name (a ∷ b ∷ []) (stores_of x) × ((t : Store) × Among (stores_of x) t) × (worlds.is_unsure x ≡ false)) (sym e) (left, (a, inl refl), refl)
  where
    left : KeepEntries name (a ∷ b ∷ []) (a ∷ [])
    left t (inl is) = (a, inl refl, ap (entries_named name) (sym is))
    left t (inr k) = absurd k
turns-keep name blocks (two a b) n (inr e) s k =
    subst (λ (x : Media). KeepEntries name (a ∷ b ∷ []) (stores_of x) × ((t : Store) × Among (stores_of x) t) × (worlds.is_unsure x ≡ false)) (sym e) (right, (b, inl refl), refl)
  where
    right : KeepEntries name (a ∷ b ∷ []) (b ∷ [])
    right t (inl is) = (b, inr (inl refl), ap (entries_named name) (sym is))
    right t (inr k) = absurd k
turns-keep name blocks lost n h s k = absurd k

look-unit : (w : World) (c : Command) (u n : ℕ) → looks_anew w c ≡ Some u → is_format_of c n ≡ true → n ≡ u
look-unit w (command.Format m label sig) u n looks is = sym (eqb-true m n is) ∙ go (is_none (first_of (look_checks w m)) && unsure_on w m) looks
  where
    go : (b : Bool) → ◌≡◌ {A = Option ℕ} (if b then Some m else None) (Some u) → m ≡ u
    go true e = some-same m u e
    go false e = absurd (none-some u e)
look-unit w _ u n looks is = absurd (both-ways is)

found-keeps : (name : List ℕ) (w v : World) (c : Command) (x u : ℕ) (s : Store) → looks_anew w c ≡ Some x → Found w x v → Among (worlds.stores_on w u) s
    → KeepEntries name (worlds.stores_on w u) (worlds.stores_on (answer v c).0 u)
found-keeps name w v c x u s looks f k =
    keeps-trans name (worlds.stores_on w u) (worlds.stores_on v u) (worlds.stores_on (answer v c).0 u) begin.0 (answer-keeps name v c u begin.1.0 sure begin.1.1 untold)
  where
    untold : told_to name (notes_of v c) ≡ []
    untold = let at = looked w c x looks in
        ap (told_to name) (ap (if_done (first_of (checks v c))) (looked-none v c at.0 at.1) ∙ none-done (first_of (checks v c)))

    here : device v x ≡ Some (record f.on { media = f.holds })
    here = ap (λ (y : World). device y x) f.is ∙ device-same w x (λ d. record d { media = f.holds }) ∙ ap (option_map {T = Device} (λ d. record d { media = f.holds })) f.there

    sure : first_of (checks v c) ≡ None → is_format_of c u ≡ true → unsure_on v u ≡ false
    sure ok is =
        let same = look-unit w c x u looks is in
        let there : Among (stores_of f.on.media) s = subst (λ (ss : List Store). Among ss s) (stores-by w x f.on f.there) (subst (λ (n : ℕ). Among (worlds.stores_on w n) s) same k) in
        ap (unsure_on v) same ∙ ap (λ (o : Option Device). let b : Bool = elim o [ None ↦ false | Some d ↦ worlds.is_unsure d.media ] in b) here
        ∙ (turns-keep name f.on.blocks f.on.media f.holds f.may s there).2

    begin : KeepEntries name (worlds.stores_on w u) (worlds.stores_on v u) × ((t : Store) × Among (worlds.stores_on v u) t)
    begin = go (same-or-not u x)
      where
        go : (u ≡ x) ⊎ (u ≡ x → ⊥) → KeepEntries name (worlds.stores_on w u) (worlds.stores_on v u) × ((t : Store) × Among (worlds.stores_on v u) t)
        go (inl same) = subst (λ (n : ℕ). KeepEntries name (worlds.stores_on w n) (worlds.stores_on v n) × ((t : Store) × Among (worlds.stores_on v n) t)) (sym same)
            (subst (λ (ss : List Store). KeepEntries name ss (worlds.stores_on v x) × ((t : Store) × Among (worlds.stores_on v x) t)) (sym (stores-by w x f.on f.there))
            (subst (λ (ss : List Store). KeepEntries name (stores_of f.on.media) ss × ((t : Store) × Among ss t)) (sym (ap stores_at here)) (r.0, r.1)))
          where
            r : KeepEntries name (stores_of f.on.media) (stores_of f.holds) × ((t : Store) × Among (stores_of f.holds) t) × (worlds.is_unsure f.holds ≡ false)
            r = turns-keep name f.on.blocks f.on.media f.holds f.may s
                (subst (λ (ss : List Store). Among ss s) (stores-by w x f.on f.there) (subst (λ (n : ℕ). Among (worlds.stores_on w n) s) same k))
        go (inr differs) =
            let same : worlds.stores_on v u ≡ worlds.stores_on w u = ap stores_at (ap (λ (y : World). device y u) f.is ∙ device-other w x (λ d. record d { media = f.holds }) u differs) in
            (keeps-same name (worlds.stores_on w u) (worlds.stores_on v u) same, (s, subst (λ (ss : List Store). Among ss s) (sym same) k))

-- ---- a unit beside one that is thrown out

out-same : (w : World) (x u : ℕ) (change : Media → Media) → (u ≡ x → ⊥) → worlds.stores_on (settle (thrown_out w x change)) u ≡ worlds.stores_on w u
out-same w x u change differs = ap stores_at (device-other w x (λ d. record d { media = change d.media; mounted = false }) u differs)

halfway-keeps : (name : List ℕ) (w : World) (c : Command) (x u : ℕ) → moves_away c x ≡ true → (u ≡ x → ⊥) → told_to name (take 1 (events w c)) ≡ []
    → KeepEntries name (worlds.stores_on w u) (worlds.stores_on (world_halfway w c x) u)
unfolding events changed
halfway-keeps name w (command.Move t s uid v y) x u moves differs none =
    subst (KeepEntries name (worlds.stores_on w u)) (sym (out-same (changed w (command.Move t s uid v y)) x u (either_of (store_on_unit w x)) differs))
    (kept-entries name w (changed w (command.Move t s uid v y)) u (row-kept w (command.Move t s uid v y) u refl)
    (ap (λ (o : Option Device). option_map (λ (p : Soup). p.entries) (option_and_then (soup_named name) (option_and_then (λ (d : Device). store_of d.media) o)))
    (device-other (copy_to w v y (entry_in w t s uid)) t (λ d. record d { media = change_media (change_soup s (remove_entry uid)) d.media }) u
    (λ e. differs (e ∙ (away t uid v x s y moves).0)))
    ∙ copy-apart name w v y (entry_in w t s uid) (told-apart name y _ _ none).0 u))
halfway-keeps name w _ x u moves differs none = absurd (both-ways moves)

-- ---- what watches and copies ask

-- an entry is read
read-keeps : (name : List ℕ) (w : World) (c : Command) (u : ℕ) → (changed w c).units ≡ w.units → KeepEntries name (worlds.stores_on w u) (worlds.stores_on (settle (changed w c)) u)
read-keeps name w c u same = keeps-same name (worlds.stores_on w u) (worlds.stores_on (settle (changed w c)) u) (ap (λ (us : List (Option Device)). stores_at (worlds.flat (slice_get us u))) same)

-- an entry is changed
change-keeps : (name : List ℕ) (w : World) (n : ℕ) (s : List ℕ) (uid : ℕ) (g : RawGraph) (u : ℕ) → told_to name (events w (command.Change n s uid g)) ≡ []
    → KeepEntries name (worlds.stores_on w u) (worlds.stores_on (settle (changed w (command.Change n s uid g))) u)
unfolding changed events
change-keeps name w n s uid g u none =
    kept-entries name w (changed w (command.Change n s uid g)) u (row-kept w (command.Change n s uid g) u refl)
    (soup-apart name w n s (change_entry uid (with_graph w.minute g)) (told-apart name s _ _ none).0 (λ p. refl) u)

asked-keeps : (name : List ℕ) (h : Whole) (c : Command) (u : ℕ) (d : Command) → is_plain c ≡ false → asks h c ≡ Some d → told_to name (events h.world d) ≡ []
    → KeepEntries name (worlds.stores_on h.world u) (worlds.stores_on (settle (changed h.world d)) u)
unfolding is_plain asks on_units
asked-keeps name h (command.Watch s most) u d p e none = absurd (none-some d e)
asked-keeps name h (command.Notes n) u d p e none = absurd (none-some d e)
asked-keeps name h (command.Unwatch n) u d p e none = absurd (none-some d e)
asked-keeps name h (command.Draft n) u d p e none = absurd (none-some d e)
asked-keeps name h (command.Edit n path g) u d p e none = absurd (none-some d e)
asked-keeps name h (command.Discard n) u d p e none = absurd (none-some d e)
asked-keeps name h (command.Open v s uid) u d p e none =
    subst (λ (x : Command). KeepEntries name (worlds.stores_on h.world u) (worlds.stores_on (settle (changed h.world x)) u)) (some-same (command.Get v s uid) d e) (read-keeps name h.world (command.Get v s uid) u (changed-units h.world (command.Get v s uid) refl))
asked-keeps name h (command.Revert n) u d p e none = copied (copy h n) e
  where
    lives : (o : Option Spot) → option_map (λ s. get_of s) o ≡ Some d → KeepEntries name (worlds.stores_on h.world u) (worlds.stores_on (settle (changed h.world d)) u)
    lives None e = absurd (none-some d e)
    lives (Some s) e = subst (λ (x : Command). KeepEntries name (worlds.stores_on h.world u) (worlds.stores_on (settle (changed h.world x)) u)) (some-same (get_of s) d e) (read-keeps name h.world (get_of s) u (changed-units h.world (get_of s) refl))

    copied : (o : Option Copy) → option_and_then (λ k. option_map (λ s. get_of s) (living h k)) o ≡ Some d → KeepEntries name (worlds.stores_on h.world u) (worlds.stores_on (settle (changed h.world d)) u)
    copied None e = absurd (none-some d e)
    copied (Some k) e = lives (living h k) e
asked-keeps name h (command.Save n) u d p e none = copied (copy h n) e
  where
    lives : (k : Copy) (o : Option Spot) → option_map (change_of k) o ≡ Some d → KeepEntries name (worlds.stores_on h.world u) (worlds.stores_on (settle (changed h.world d)) u)
    lives k None e = absurd (none-some d e)
    lives k (Some s) e = subst (λ (x : Command). KeepEntries name (worlds.stores_on h.world u) (worlds.stores_on (settle (changed h.world x)) u)) (some-same (change_of k s) d e)
        (change-keeps name h.world s.unit s.soup.name s.entry.uid k.draft u (subst (λ (x : Command). told_to name (events h.world x) ≡ []) (sym (some-same (change_of k s) d e)) none))

    copied : (o : Option Copy) → option_and_then (λ k. option_map (change_of k) (living h k)) o ≡ Some d → KeepEntries name (worlds.stores_on h.world u) (worlds.stores_on (settle (changed h.world d)) u)
    copied None e = absurd (none-some d e)
    copied (Some k) e = lives k (living h k) e
asked-keeps name h _ u d p e none = absurd (both-ways (sym p))

-- ---- a step

other-answer-keeps : (name : List ℕ) (h : Whole) (c : Command) (v : World) (u : ℕ) → is_plain c ≡ false → told_to name (told_by h c v (whole_answer h c).1) ≡ []
    → KeepEntries name (worlds.stores_on h.world u) (worlds.stores_on (whole_answer h c).0.world u)
unfolding whole_answer
other-answer-keeps name h c v u p none = go (first_of (whole_checks h c)) none
  where
    asked : (o : Option Command) → asks h c ≡ o → told_to name (events_of h.world o) ≡ []
        → KeepEntries name (worlds.stores_on h.world u) (worlds.stores_on (let x : World = elim o [ None ↦ h.world | Some d ↦ settle (changed h.world d) ] in x) u)
    asked None e none = keeps-all name (worlds.stores_on h.world u)
    asked (Some d) e none = asked-keeps name h c u d p e none

    go : (o : Option Refusal) → told_to name (told_by h c v (whole_answered h c o).1) ≡ [] → KeepEntries name (worlds.stores_on h.world u) (worlds.stores_on (whole_answered h c o).0.world u)
    go (Some r) none = keeps-all name (worlds.stores_on h.world u)
    go None none = asked (asks h c) refl (ap (told_to name) (answer-by h c v None p) ∙ none)

pub step-keeps : (h : Whole) (c : Command) (v : Whole) (r : Reply) (name : List ℕ) (u : ℕ) (s : Store) → WholeStep h c v r → told_to name (told_by h c v.world r) ≡ []
    → (r ≡ Reply.thrown u → ⊥) → Among (stores_on h u) s → KeepEntries name (stores_on h u) (stores_on v u)
step-keeps h c v r name u s step none fine k = go (is_plain c) refl
  where
    told_none : is_plain c ≡ true → told_to name (notes_after h.world c v.world r) ≡ []
    told_none p = ap (told_to name) (plain-by h c v.world r p) ∙ none

    world-is : (w : World) → v.world ≡ w → KeepEntries name (stores_on h u) (worlds.stores_on w u) → KeepEntries name (stores_on h u) (stores_on v u)
    world-is w e keeps = subst (λ (x : World). KeepEntries name (stores_on h u) (worlds.stores_on x u)) (sym e) keeps

    by : is_plain c ≡ true → WholeStep h c v r → KeepEntries name (stores_on h u) (stores_on v u)
    by p (plain looks is) =
        let both : (noting h (answer h.world c).0 (notes_of h.world c), (answer h.world c).1) ≡ (v, r) = sym (plain-answer h c p) ∙ is in
        world-is (answer h.world c).0 (sym (ap (λ (a : Whole × Reply). a.0.world) both))
        (answer-keeps name h.world c u s (format-sure h.world c u looks) k
        (ap (told_to name) (sym (answer-notes h.world c) ∙ ap (λ (a : Whole × Reply). notes_after h.world c a.0.world a.1) both) ∙ told_none p))
    by p (found {u = x} {v = y} looks has is) =
        let both : (noting h (answer y c).0 (notes_of y c), (answer y c).1) ≡ (v, r) = sym (plain-answer (in_world h y) c p) ∙ is in
        world-is (answer y c).0 (sym (ap (λ (a : Whole × Reply). a.0.world) both)) (found-keeps name h.world y c x u s looks has k)
    by p (thrown {u = x} asked among next is) =
        world-is (world_thrown h.world asked x) (ap (λ (y : Whole). y.world) next)
        (keeps-same name (stores_on h u) (worlds.stores_on (world_thrown h.world asked x) u) (out-same h.world x u (torn h.world asked x) (λ e. fine (is ∙ ap Reply.thrown (sym e)))))
    by p (halfway {u = x} moves ok next is) =
        world-is (world_halfway h.world c x) (ap (λ (y : Whole). y.world) next)
        (halfway-keeps name h.world c x u moves (λ e. fine (is ∙ ap Reply.thrown (sym e)))
        (ap (told_to name) (sym (halfway-notes h.world c x moves (is-accepted h.world c ok)))
        ∙ ap (told_to name) (sym (ap (λ (y : World). notes_after h.world c y r) (ap (λ (y : Whole). y.world) next) ∙ ap (notes_after h.world c (world_halfway h.world c x)) is)) ∙ told_none p))

    go : (b : Bool) → is_plain c ≡ b → KeepEntries name (stores_on h u) (stores_on v u)
    go true p = by p step
    go false p = elim (other-steps h c v r p step) [
      | inl is ↦ world-is (whole_answer h c).0.world (sym (ap (λ (a : Whole × Reply). a.0.world) is))
          (other-answer-keeps name h c v.world u p (ap (λ (a : Whole × Reply). told_to name (told_by h c v.world a.1)) is ∙ none))
      | inr t ↦ world-is (world_thrown h.world t.1 t.0) (ap (λ (y : Whole). y.world) t.3)
          (keeps-same name (stores_on h u) (worlds.stores_on (world_thrown h.world t.1 t.0) u) (out-same h.world t.0 u (torn h.world t.1 t.0) (λ e. fine (t.4 ∙ ap Reply.thrown (sym e)))))
    ]

-- ---- the unit whose device failed

failed-unit : (x u : ℕ) → Reply.thrown u ≡ Reply.thrown x → x ≡ u
failed-unit x u e = ap unit-of (sym e)
  where
    unit-of : Reply → ℕ
    unit-of (Reply.thrown n) = n
    unit-of r = 0

-- it may hold what it may have held
torn-may : (w : World) (c : Command) (u : ℕ) (s : Store) → Among (worlds.stores_on w u) s → Among (worlds.stores_on (world_thrown w c u) u) s
torn-may w c u s k = subst (λ (o : Option Device). Among (stores_at o) s) (sym (device-same w u (λ d. record d { media = torn w c u d.media; mounted = false }))) (go (device w u) k)
  where
    media : (m : Media) → Among (stores_of m) s → Among (stores_of (torn w c u m)) s
    media blank k = absurd k
    media (one x) k = either (may_tear w c u)
      where
        either : (b : Bool) → Among (stores_of (if b then two x (store_after w c u x) else one x)) s
        either true = elim k [ inl e ↦ inl e | inr k ↦ absurd k ]
        either false = k
    media (two a b) k = k
    media lost k = absurd k

    go : (o : Option Device) → Among (stores_at o) s → Among (stores_at (option_map {T = Device} (λ d. record d { media = torn w c u d.media; mounted = false }) o)) s
    go None k = absurd k
    go (Some d) k = media d.media k

halfway-may : (w : World) (c : Command) (u : ℕ) (s : Store) → moves_away c u ≡ true → Among (worlds.stores_on w u) s → Among (worlds.stores_on (world_halfway w c u) u) s
halfway-may w c u s moves k =
    subst (λ (o : Option Device). Among (stores_at o) s) (sym (device-same (changed w c) u (λ d. record d { media = either_of (store_on_unit w u) d.media; mounted = false })))
    (go (device w u) (device (changed w c) u) (row-kept w c u (no-formats c moves)) (ap (λ (o : Option Device). option_and_then (λ (d : Device). store_of d.media) o) refl) k)
  where
    no-formats : (c : Command) → moves_away c u ≡ true → is_format_of c u ≡ false
    no-formats (command.Format n label sig) h = absurd (both-ways h)
    no-formats _ h = refl

    media : (m n : Media) → Goes-on m n → store_on_unit w u ≡ store_of m → Among (stores_of m) s → Among (stores_of (either_of (store_on_unit w u) n)) s
    media blank n g e k = absurd k
    media (one x) n g e k = subst (λ (o : Option Store). Among (stores_of (either_of o n)) s) (sym e)
        (subst (λ (y : Media). Among (stores_of (either_of (Some x) y)) s) (sym g.1) (elim k [ inl e ↦ inl e | inr k ↦ absurd k ]))
    media (two a b) n g e k = subst (λ (o : Option Store). Among (stores_of (either_of o n)) s) (sym e) (subst (λ (y : Media). Among (stores_of (either_of None y)) s) (sym g) k)
    media lost n g e k = absurd k

    go : (o p : Option Device) → Device-kept o p → store_on_unit w u ≡ option_and_then (λ (d : Device). store_of d.media) o → Among (stores_at o) s
        → Among (stores_at (option_map {T = Device} (λ d. record d { media = either_of (store_on_unit w u) d.media; mounted = false }) p)) s
    go None p kept e k = absurd k
    go (Some d) p kept e k = subst (λ (x : Option Device). Among (stores_at (option_map {T = Device} (λ d. record d { media = either_of (store_on_unit w u) d.media; mounted = false }) x)) s) (sym kept.1)
        (media d.media kept.0.media kept.2 e k)

pub failed-may : (h : Whole) (c : Command) (v : Whole) (u : ℕ) (s : Store) → WholeStep h c v (Reply.thrown u) → Among (stores_on h u) s → Among (stores_on v u) s
failed-may h c v u s (plain looks is) k = absurd (both-ways (sym (answer-good h c) ∙ ap (λ (a : Whole × Reply). is_thrown a.1) is))
failed-may h c v u s (found {v = y} looks has is) k = absurd (both-ways (sym (answer-good (in_world h y) c) ∙ ap (λ (a : Whole × Reply). is_thrown a.1) is))
failed-may h c v u s (thrown {u = x} asked among next is) k =
    let same = failed-unit x u is in
    subst (λ (y : Whole). Among (stores_on y u) s) (sym next)
    (subst (λ (n : ℕ). Among (worlds.stores_on (world_thrown h.world asked n) u) s) (sym same) (torn-may h.world asked u s k))
failed-may h c v u s (halfway {u = x} moves ok next is) k =
    let same = failed-unit x u is in
    subst (λ (y : Whole). Among (stores_on y u) s) (sym next)
    (subst (λ (n : ℕ). Among (worlds.stores_on (world_halfway h.world c n) u) s) (sym same) (halfway-may h.world c u s (subst (λ (n : ℕ). moves_away c n ≡ true) same moves) k))

-- ---- a run

count-none : {A : Type 0} (f : A → Bool) (x : A) (xs : List A) → length (filter f (x ∷ xs)) ≡ 0 → (f x ≡ false) × (length (filter f xs) ≡ 0)
count-none f x xs e = go (f x) e
  where
    go : (b : Bool) → length (cond b (x ∷ filter f xs) (filter f xs)) ≡ 0 → (b ≡ false) × (length (filter f xs) ≡ 0)
    go true e = absurd (omega (arith, e))
    go false e = (refl, e)

append-none : {A : Type 0} (xs ys : List A) → xs ++ ys ≡ [] → (xs ≡ []) × (ys ≡ [])
append-none [] ys e = (refl, e)
append-none (x ∷ xs) ys e = cc

not-thrown : (u : ℕ) (r : Reply) → throws u r ≡ false → r ≡ Reply.thrown u → ⊥
not-thrown u r none e = both-ways (sym none ∙ ap (throws u) e ∙ (Decides-eqb u u).1 refl)

pub run-keeps : (h : Whole) (items : List Item) (rows : List (Row Whole)) (name : List ℕ) (u : ℕ) (s : Store) → IsRun WholeStep h items rows → told_to name (told_in h items rows) ≡ []
    → thrown_count u rows ≡ 0 → Among (stores_on h u) s → KeepEntries name (stores_on h u) (stores_on (last_world h rows) u)
unfolding told_in
run-keeps h [] [] name u s run none fine k = keeps-all name (stores_on h u)
run-keeps h [] (row ∷ rows) name u s run none fine k = absurd run
run-keeps h (x ∷ xs) [] name u s run none fine k = absurd run
run-keeps h (Err x ∷ xs) (row ∷ rows) name u s run none fine k =
    let more = count-none (λ (row : Row Whole). throws u row.1) row rows fine in
    let same : stores_on row.0 u ≡ stores_on h u = ap (λ (y : Whole). stores_on y u) run.0.0 in
    subst (λ (ss : List Store). KeepEntries name ss (stores_on (last_world row.0 rows) u)) same
    (run-keeps row.0 xs rows name u s run.1 none more.1 (subst (λ (ss : List Store). Among ss s) (sym same) k))
run-keeps h (Ok c ∷ xs) (row ∷ rows) name u s run none fine k =
    let more = count-none (λ (row : Row Whole). throws u row.1) row rows fine in
    let both = append-none (told_to name (told_by h c row.0.world row.1)) (told_to name (told_in row.0 xs rows))
    (sym (told-more name (told_by h c row.0.world row.1) (told_in row.0 xs rows)) ∙ none) in
    let next = whole-later h c row.0 row.1 run.0 u s k in
    keeps-trans name (stores_on h u) (stores_on row.0 u) (stores_on (last_world row.0 rows) u)
    (step-keeps h c row.0 row.1 name u s run.0 both.0 (not-thrown u row.1 more.0) k)
    (run-keeps row.0 xs rows name u next.some.0 run.1 both.1 more.1 next.some.1)
