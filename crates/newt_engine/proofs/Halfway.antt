-- The device of the source of a move fails once the target has the entry: in every world that is stood for the target has it, and the source may have it still.
use Rattle.std.proofs.Common.{◌≡◌, ◌≢◌, ◌⊎◌, inl, inr, refl, ap, sym, ◌∙◌, subst, ℕ, List, [], ◌∷◌, ◌++◌, Bool, true, false, ◌&&◌, not, cond, Option, Some, None, option_map, option_and_then, is_none, ◌==◌}
use Rattle.std.proofs.lemmas.Bool.{eqb-true}
use Rattle.std.specs.Prelude.{IsSome, is_some}
use Rattle.newt_base.specs.Refusals.{first_of}
use Rattle.newt_base.specs.declared.Refusal.{Refusal}
use Rattle.newt_host.specs.Moments.{Moment, MayLeave, Always, image}
use Rattle.newt_host.specs.Outside.{Outside, SameCards}
use Rattle.newt_host.proofs.Moments.{Always-last, Always-map}
use Rattle.newt_spec_graph.specs.Lists.{Among}
use Rattle.newt_spec_graph.proofs.Lists.{both-ways, none-some, some-same}
use Rattle.newt_spec_store.specs.Store.{Store}
use Rattle.newt_spec_world.specs.Answer.{answer}
use Rattle.newt_spec_world.specs.Changed.{changed}
use Rattle.newt_spec_world.specs.Refused.{checks, not_mounted}
use Rattle.newt_spec_world.specs.Reply.{Reply}
use Rattle.newt_spec_world.specs.Step.{Step, halfway, either_of, formats, is_accepted, is_format_of, looks_anew, moves_away, thrown_out, world_halfway}
use Rattle.newt_spec_world.specs.World.{World, Device, Media, blank, one, two, lost, device, is_unsure, mounted_store, settle, store_if_mounted, store_of, store_on_unit, stores_of, stores_on, unsure_on, IsBlankOn}
use Rattle.newt_spec_world.specs.declared.command.Command.{Command}
use Rattle.newt_spec_world.specs.declared.command.Command.TheVariants as command
use Rattle.newt_laws_changes.specs.Later.{StoreLater}
use Rattle.newt_laws_world.proofs.Kept.{AllFalse, all-false}
use Rattle.newt_laws_world.proofs.Units.{device-other, device-same, same-or-not}
use Rattle.newt_laws_steps.specs.Answering.{Answering, ReadsOneOf}
use Rattle.newt_laws_steps.specs.Meant.{MountedSure, meant_by, over, over_device}
use Rattle.newt_laws_steps.specs.StandsFor.{Holds, IsKept, Marks, StandsFor, Turned, known, seen, seen_on}
use Rattle.newt_laws_steps.proofs.Held.{stands-sure}
use Rattle.newt_laws_steps.proofs.Kept.{Device-kept, Goes-on, row-kept, stores-by, unsure-by}
use Rattle.newt_laws_steps.proofs.Meant.{device-m}
use Rattle.newt_laws_steps.proofs.MeantAnswer.{row-mounted}
use Rattle.newt_laws_steps.proofs.MeantRows.{Touched, changed-m, first-m, left-false, right-false, sure-of}
use Rattle.newt_laws_steps.proofs.Standing.{is-accepted}
use Rattle.newt_laws_steps.proofs.Stepping.{row-sure}
use Rattle.newt_laws_steps.proofs.StoodFor.{known-stands, thrown-stands}
use Rattle.newt_engine_units.specs.Breaks.{Meanwhile}
use Rattle.newt_engine.proofs.Seeing.{known-due, known-some, known-sure, stores-same}
use Rattle.newt_engine.proofs.Lifting.{held-holds, held-none, held-on, holds-left, meant-held, moments-to, sure-stores}
use Rattle.newt_engine.proofs.Thrown.{units-of}

-- ---- a move to another unit

moves-unformed : (c : Command) (u n : ℕ) → moves_away c u ≡ true → is_format_of c n ≡ false
moves-unformed (command.Format _ _ _) u n h = absurd (both-ways h)
moves-unformed c u n h = refl

moves-unlooked : (w : World) (c : Command) (u : ℕ) → moves_away c u ≡ true → looks_anew w c ≡ None
moves-unlooked w (command.Format _ _ _) u h = absurd (both-ways h)
moves-unlooked w (command.Mount _) u h = absurd (both-ways h)
moves-unlooked w c u h = refl

module _ (w : World) (sure : MountedSure w) where
  source-is : (t u x : ℕ) → (t == u) && not (x == u) ≡ true → t ≡ u
  source-is t u x h = eqb-true t u (first (t == u) h)
    where
      first : (b : Bool) → b && not (x == u) ≡ true → b ≡ true
      first true h = refl
      first false h = absurd (both-ways h)

  -- what it touches is mounted, and so is its source
  move-mounted : (c : Command) (u : ℕ) → moves_away c u ≡ true → AllFalse (checks w c) → Touched w c × (is_none (mounted_store w u) ≡ false)
  unfolding checks
  move-mounted (command.Move t s uid x y) u away h =
      let from = left-false (not_mounted w t).1 (not_mounted w x).1 h.1.0 in (
        (sure-of (λ _. blank) w sure t from, sure-of (λ _. blank) w sure x (right-false (not_mounted w t).1 (not_mounted w x).1 h.1.0)),
        ap (λ n. is_none (mounted_store w n)) (sym (source-is t u x away)) ∙ from,
      )
  move-mounted c u away h = absurd (both-ways away)

-- a unit that is mounted has one store
mounted-one : (w : World) (sure : MountedSure w) (u : ℕ) → is_none (mounted_store w u) ≡ false → (d : Device) × (s : Store) × (device w u ≡ Some d) × (d.media ≡ one s)
mounted-one w sure u h = go (device w u) refl h
  where
    its : (d : Device) → device w u ≡ Some d → (b : Bool) (m : Media) → d.media ≡ m → is_none (cond b (store_of m) None) ≡ false → (e : Device) × (s : Store) × (device w u ≡ Some e) × (e.media ≡ one s)
    its d e true (one s) is k = (d, s, e, is)
    its d e true blank is k = absurd (both-ways (sym k))
    its d e true (two a b) is k = absurd (both-ways (sym k))
    its d e true lost is k = absurd (both-ways (sym k))
    its d e false m is k = absurd (both-ways (sym k))

    go : (o : Option Device) → device w u ≡ o → is_none (option_and_then store_if_mounted o) ≡ false → (d : Device) × (s : Store) × (device w u ≡ Some d) × (d.media ≡ one s)
    go None e k = absurd (both-ways (sym k))
    go (Some d) e k = its d e d.mounted d.media refl k

module _ (reads : List ℕ → Option Store) (marks : Marks) (before : Outside) (c : Command) (kept : IsKept reads marks before)
    (history : (u : ℕ) → IsSome (before.card u) → MayLeave u before.now (image u before.now))
    (f : ℕ → Media) (stands : StandsFor reads marks before (meant_by f (known reads marks before)))
    (after : Outside) (way : Always (Meanwhile reads marks.due (known reads marks before) c (answer (seen reads (known reads marks before) before.now c) c).0 before.now) before.now after.now)
    (u : ℕ) (away : moves_away c u ≡ true) (passed : first_of (checks (known reads marks before) c) ≡ None) where
  abbrev w0 : World
  w0 = known reads marks before

  abbrev w : World
  w = meant_by f w0

  abbrev v0 : World
  v0 = (answer (seen reads w0 before.now c) c).0

  sure-w0 : MountedSure w0
  sure-w0 = stands-sure reads marks before w0 (known-stands reads marks before kept)

  moved : Touched w0 c × (is_none (mounted_store w0 u) ≡ false)
  moved = move-mounted w0 sure-w0 c u away (all-false (checks w0 c) passed)

  -- the source
  source : (d : Device) × (s : Store) × (device w0 u ≡ Some d) × (d.media ≡ one s)
  source = mounted-one w0 sure-w0 u moved.1

  -- and what it has after the move
  source-then : (e : Device) × (t : Store) × (device (changed w0 c) u ≡ Some e) × (e.media ≡ one t)
  source-then =
      let k : Device-kept (Some source.0) (device (changed w0 c) u) = subst (λ o. Device-kept o (device (changed w0 c) u)) source.2 (row-kept w0 c u (moves-unformed c u u away)) in
      let g : Goes-on (one source.1) k.0.media = subst (λ m. Goes-on m k.0.media) source.3 k.2 in
      (k.0, g.0, k.1, g.1)

  seen-w0 : seen reads w0 before.now c ≡ w0
  seen-w0 = ap (seen_on reads w0 before.now) (moves-unlooked w0 c u away)

  -- the units of the answer
  answer-units : (n : ℕ) → device v0 n ≡ device (changed w0 c) n
  answer-units n = ap (λ (x : World). device (answer x c).0 n) seen-w0 ∙ units-of w0 c n passed

  changed-meant : changed w c ≡ meant_by f (changed w0 c)
  changed-meant = changed-m f w0 sure-w0 c moved.0

  its-due : marks.due u ≡ false
  its-due = sym (known-due reads marks before kept u source.0 source.2) ∙ ap is_unsure source.3

  its-stores : stores_on w u ≡ source.1 ∷ []
  its-stores = stores-same f w0 u (unsure-by w0 u source.0 source.2 ∙ ap is_unsure source.3) ∙ stores-by w0 u source.0 source.2 ∙ ap stores_of source.3

  its-store : store_on_unit w u ≡ Some source.1
  its-store = ap (option_and_then (λ (d : Device). store_of d.media)) (device-m f w0 u ∙ ap (option_map (over_device (f u))) source.2) ∙ ap (λ m. store_of (over (f u) m)) source.3

  then-stores : stores_on v0 u ≡ source-then.1 ∷ []
  then-stores = stores-by v0 u source-then.0 (answer-units u ∙ source-then.2) ∙ ap stores_of source-then.3

  abbrev change : Media → Media
  change = either_of (store_on_unit w u)

  abbrev gone : Device → Device
  gone d = record d { media = change d.media; mounted = false }

  abbrev halfway_world : World
  halfway_world = world_halfway w c u

  changed-source : over (f u) source-then.0.media ≡ one source-then.1
  changed-source = ap (over (f u)) source-then.3

  -- what may be left of it
  left-of : (now : Moment) → Meanwhile reads marks.due w0 c v0 before.now now → (left : List ℕ) → MayLeave u now left → (reads left ≡ Some source.1) ⊎ (reads left ≡ Some source-then.1)
  left-of now a left may =
      let r = sure-stores reads marks before c kept history f stands u source.1 left now a its-due (subst (λ xs. Among xs source.1) (sym its-stores) (inl refl)) may in
      go r.0 (subst (λ xs. Among (xs ++ stores_on v0 u) r.0) its-stores r.1) r.2
    where
      at : (x : Store) → Among (source-then.1 ∷ []) x → reads left ≡ Some x → (reads left ≡ Some source.1) ⊎ (reads left ≡ Some source-then.1)
      at x (inl i) is = inr (is ∙ ap {B = Option Store} (λ y. Some y) (sym i))
      at x (inr k) is = absurd k

      go : (x : Store) → (source.1 ≡ x) ⊎ Among (stores_on v0 u) x → reads left ≡ Some x → (reads left ≡ Some source.1) ⊎ (reads left ≡ Some source-then.1)
      go x (inl i) is = inl (is ∙ ap {B = Option Store} (λ y. Some y) (sym i))
      go x (inr k) is = at x (subst (λ xs. Among xs x) then-stores k) is

  -- ---- the moments

  halfway-source : stores_on halfway_world u ≡ source.1 ∷ source-then.1 ∷ []
  halfway-source = ap (λ (o : Option Device). let x : List Store = elim o [ None ↦ [] | Some d ↦ stores_of d.media ] in x)
      (device-same (changed w c) u gone ∙ ap (λ (x : World). option_map gone (device x u)) changed-meant ∙ ap (option_map gone) (device-m f (changed w0 c) u ∙ ap (option_map (over_device (f u))) source-then.2))
      ∙ ap (λ m. stores_of (change m)) changed-source ∙ ap (λ o. stores_of (either_of o (one source-then.1))) its-store

  halfway-other : (n : ℕ) → n ≢ u → marks.due n ≡ false → stores_on halfway_world n ≡ stores_on v0 n
  halfway-other n other due =
      ap stores-at (device-other (changed w c) u gone n other ∙ ap (λ (x : World). device x n) changed-meant)
      ∙ stores-same f (changed w0 c) n (row-sure w0 c n (known-sure reads marks before kept n due)) ∙ ap stores-at (sym (answer-units n))
    where
      stores-at : Option Device → List Store
      stores-at o = elim o [ None ↦ [] | Some d ↦ stores_of d.media ]

  pub halfway-moments : Always (Answering reads w c halfway_world before.now) before.now after.now
  halfway-moments = moments-to reads marks before c kept history f stands halfway_world (λ _. Unit {0})
      (λ n s left now a q due k may. go n s left now a due k may (same-or-not n u)) (λ n now q fmt empty. absurd (both-ways (sym (ap (λ b. b && is_accepted (seen reads w0 before.now c) c) (moves-unformed c u n away)) ∙ fmt)))
      (Always-map (λ m a. (a, tt)) way)
    where
      source-stores : (s : Store) (left : List ℕ) (now : Moment) → Meanwhile reads marks.due w0 c v0 before.now now → MayLeave u now left → ReadsOneOf reads (stores_on w u ++ stores_on halfway_world u) left
      source-stores s left now a may = subst (λ xs. ReadsOneOf reads (xs ++ stores_on halfway_world u) left) (sym its-stores)
          (subst (λ xs. ReadsOneOf reads (source.1 ∷ xs) left) (sym halfway-source)
          (elim (left-of now a left may) [ inl is ↦ (source.1, inl refl, is) | inr is ↦ (source-then.1, inr (inr (inl refl)), is) ]))

      go : (n : ℕ) (s : Store) (left : List ℕ) (now : Moment) → Meanwhile reads marks.due w0 c v0 before.now now → marks.due n ≡ false → Among (stores_on w n) s → MayLeave n now left → (n ≡ u) ⊎ (n ≡ u → ⊥)
          → ReadsOneOf reads (stores_on w n ++ stores_on halfway_world n) left
      go n s left now a due k may (inl i) = subst (λ x. ReadsOneOf reads (stores_on w x ++ stores_on halfway_world x) left) (sym i) (source-stores s left now a (subst (λ x. MayLeave x now left) i may))
      go n s left now a due k may (inr other) = subst (λ xs. ReadsOneOf reads (stores_on w n ++ xs) left) (sym (halfway-other n other due))
          (sure-stores reads marks before c kept history f stands n s left now a due k may)

  -- ---- what is stood for then

  module _ (next : Marks) (stays : IsKept reads next after) (cards : SameCards before after) (is : known reads next after ≡ settle (thrown_out (changed w0 c) u (λ _. lost)))
      (holds : (n : ℕ) → marks.due n ≡ true → Holds reads before.now n (f n)) (none : (n : ℕ) → before.card n ≡ None → f n ≡ lost) where
    pub halfway-stood-for : StandsFor reads next after halfway_world
    halfway-stood-for = subst (λ (x : World). StandsFor reads next after (settle (thrown_out x u change))) (sym changed-meant)
        (thrown-stands reads next after (changed w0 c) f u change source-then.0 (row-mounted w0 c sure-w0 (all-false (checks w0 c) passed)) stays is source-then.2 its each)
      where
        its : Holds reads after.now u (change (over (f u) source-then.0.media))
        its = subst (Holds reads after.now u) (sym (ap change changed-source ∙ ap (λ o. either_of o (one source-then.1)) its-store)) (left-of after.now (Always-last way))

        each : (n : ℕ) → n ≢ u → next.due n ≡ true → Holds reads after.now n (f n)
        each n other due = go (before.card n) refl
          where
            unsure : (b : Bool) → marks.due n ≡ b → unsure_on (changed w0 c) n ≡ true → marks.due n ≡ true
            unsure true e h = e
            unsure false e h = absurd (both-ways (sym (row-sure w0 c n (known-sure reads marks before kept n e)) ∙ h))

            go : (card : Option (List ℕ)) → before.card n ≡ card → Holds reads after.now n (f n)
            go None e = subst (Holds reads after.now n) (sym (none n e)) tt
            go (Some name) e =
                let d = known-some reads next after stays n (ap is_some (cards.card n ∙ e)) in
                let there : device (changed w0 c) n ≡ Some d.0 = sym (device-other (changed w0 c) u (λ (x : Device). record x { media = lost; mounted = false }) n other) ∙ sym (ap (λ (x : World). device x n) is) ∙ d.1 in
                let old : marks.due n ≡ true = unsure (marks.due n) refl (unsure-by (changed w0 c) n d.0 there ∙ known-due reads next after stays n d.0 d.1 ∙ due) in
                holds-left reads before.now after.now n (f n)
                ((Always-last way).unsure n old (λ fmt. absurd (both-ways (sym (ap (λ b. b && is_accepted (seen reads w0 before.now c) c) (moves-unformed c u n away)) ∙ fmt)))) (holds n old)

-- ---- every world that is stood for

pub lift-halfway : (reads : List ℕ → Option Store) (marks : Marks) (before : Outside) (c : Command) → IsKept reads marks before
    → ((u : ℕ) → IsSome (before.card u) → MayLeave u before.now (image u before.now))
    → (after : Outside) → Always (Meanwhile reads marks.due (known reads marks before) c (answer (seen reads (known reads marks before) before.now c) c).0 before.now) before.now after.now
    → (u : ℕ) → moves_away c u ≡ true → is_accepted (known reads marks before) c ≡ true
    → (next : Marks) → IsKept reads next after → SameCards before after → known reads next after ≡ settle (thrown_out (changed (known reads marks before) c) u (λ _. lost))
    → (w : World) → StandsFor reads marks before w
    → (v : World) × Turned reads w c before.now v (Reply.thrown u) × StandsFor reads next after v × Always (Answering reads w c v before.now) before.now after.now
lift-halfway reads marks before c kept history after way u away ok next stays cards is v stands =
    subst (λ (x : World). (y : World) × Turned reads x c before.now y (Reply.thrown u) × StandsFor reads next after y × Always (Answering reads x c y before.now) before.now after.now) (sym meant) (
      world_halfway (meant_by f w0) c u,
      record { step = halfway {u = u} away accepted refl refl; is_plain = λ quiet. absurd (quiet u refl) },
      halfway-stood-for reads marks before c kept history f stood after way u away passed next stays cards is (λ n due. held-holds reads marks before kept v stands n) (held-none reads marks before kept v stands),
      halfway-moments reads marks before c kept history f stood after way u away passed,
    )
  where
    w0 : World
    w0 = known reads marks before

    f : ℕ → Media
    f = held-on v

    meant : v ≡ meant_by f w0
    meant = meant-held reads marks before kept v stands

    stood : StandsFor reads marks before (meant_by f w0)
    stood = subst (StandsFor reads marks before) meant stands

    passed : first_of (checks w0 c) ≡ None
    passed = is-accepted w0 c ok

    accepted : is_accepted (meant_by f w0) c ≡ true
    accepted = ap is_none (first-m f w0 (stands-sure reads marks before w0 (known-stands reads marks before kept)) c (moves-unlooked w0 c u away)) ∙ ok
