-- What a command does to the known world, lifted to every world that is stood for.
use Rattle.std.proofs.Common.{◌≡◌, ◌≢◌, ◌⊎◌, inl, inr, refl, ap, sym, ◌∙◌, subst, ℕ, zero, suc, List, [], ◌∷◌, ◌++◌, Bool, true, false, IsTrue, Option, Some, None, option_map}
use Rattle.std.specs.Prelude.{IsSome, is_some, slice_get}
use Rattle.newt_host.specs.Moments.{Moment, MayLeave, Always, image}
use Rattle.newt_host.specs.Outside.{Outside, SameCards}
use Rattle.newt_host.proofs.Moments.{Always-last, Always-map}
use Rattle.newt_spec_graph.specs.Lists.{Among}
use Rattle.newt_spec_graph.proofs.Lists.{among-left, both-ways, none-some, some-same}
use Rattle.newt_spec_store.specs.Store.{Store}
use Rattle.newt_spec_store.specs.Valid.{valid}
use Rattle.newt_spec_world.specs.Answer.{answer}
use Rattle.newt_spec_world.specs.Reply.{Reply}
use Rattle.newt_spec_world.specs.Step.{Step, formats}
use Rattle.newt_spec_world.specs.World.{World, Device, Media, blank, one, two, lost, device, flat, is_unsure, store_of, stores_of, stores_on, unsure_on, IsBlankOn}
use Rattle.newt_spec_world.specs.declared.command.Command.{Command}
use Rattle.newt_laws_steps.specs.Answering.{Answering, ReadsOneOf, StaysBlank}
use Rattle.newt_laws_steps.specs.Meant.{media_on, meant_by, over, over_device, over_units}
use Rattle.newt_laws_steps.specs.StandsFor.{Holds, IsKept, Marks, StandsFor, Turned, known, seen}
use Rattle.newt_laws_steps.proofs.Held.{stands-left}
use Rattle.newt_laws_steps.proofs.Kept.{unsure-by}
use Rattle.newt_laws_steps.proofs.Meant.{device-m}
use Rattle.newt_laws_steps.proofs.Seen.{seen-step}
use Rattle.newt_laws_steps.proofs.StoodFor.{meant-stands, stood-for-meant}
use Rattle.newt_engine_units.specs.Breaks.{IsLeftAs, Meanwhile}
use Rattle.newt_engine.proofs.Seeing.{answer-due, answer-seen, blank-same, due-answer, formats-known, formats-seen, formatted-one, known-due, known-none, known-some, known-sure, stores-same}

-- what is held goes on where the unit is left as it was
pub holds-left : (reads : List ℕ → Option Store) (start now : Moment) (u : ℕ) (m : Media) → IsLeftAs u start now → Holds reads start u m → Holds reads now u m
holds-left reads start now u blank l h = (λ left may. h.0 left (l.left left may) ∙ sym l.image, ap reads l.image ∙ h.1)
holds-left reads start now u (one s) l h = (λ left may. h.0 left (l.left left may) ∙ sym l.image, ap reads l.image ∙ h.1)
holds-left reads start now u (two a b) l h = λ left may. h left (l.left left may)
holds-left reads start now u lost l h = tt

-- ---- what is meant of the units

-- what a unit holds, and nothing that is known where it has no device
abbrev pub held-on : World → ℕ → Media
held-on w u = elim (device w u) [ None ↦ lost | Some d ↦ d.media ]

over-alike : (f g : ℕ → Media) (us : List (Option Device)) → ((u : ℕ) (d : Device) → flat (slice_get us u) ≡ Some d → f u ≡ g u) → over_units f us ≡ over_units g us
over-alike f g [] h = refl
over-alike f g (x ∷ xs) h = λ i. here x (λ d e. h 0 d e) i ∷ over-alike (λ u. f (suc u)) (λ u. g (suc u)) xs (λ u d e. h (suc u) d e) i
  where
    here : (o : Option Device) → ((d : Device) → o ≡ Some d → f 0 ≡ g 0) → option_map (over_device (f 0)) o ≡ option_map (over_device (g 0)) o
    here None k = refl
    here (Some d) k = ap (λ (m : Media). let x : Option Device = Some (over_device m d) in x) (k d refl)

module _ (reads : List ℕ → Option Store) (marks : Marks) (outside : Outside) (kept : IsKept reads marks outside) (w : World) (stands : StandsFor reads marks outside w) where
  pub meant-held : w ≡ meant_by (held-on w) (known reads marks outside)
  meant-held = stood-for-meant reads marks outside w stands
      ∙ ap (λ (us : List (Option Device)). record (known reads marks outside) { units = us }) (over-alike (media_on w) (held-on w) (known reads marks outside).units alike)
    where
      alike : (u : ℕ) (d : Device) → device (known reads marks outside) u ≡ Some d → media_on w u ≡ held-on w u
      alike u d e = go (device w u) refl
        where
          media-at : Option Device → Media
          media-at o = elim o [ None ↦ blank | Some d ↦ d.media ]

          held-at : Option Device → Media
          held-at o = elim o [ None ↦ lost | Some d ↦ d.media ]

          card : (o : Option (List ℕ)) → outside.card u ≡ o → is_some o ≡ false → media-at (device w u) ≡ held-at (device w u)
          card None k h = absurd (none-some d (sym (known-none reads marks outside kept u k) ∙ e))
          card (Some name) k h = absurd (both-ways (sym h))

          go : (o : Option Device) → device w u ≡ o → media-at (device w u) ≡ held-at (device w u)
          go (Some x) k = ap media-at k ∙ sym (ap held-at k)
          go None k = card (outside.card u) refl (sym (stands.attached u) ∙ ap is_some k)

  pub held-holds : (u : ℕ) → Holds reads outside.now u (held-on w u)
  held-holds u = go (device w u) refl
    where
      go : (o : Option Device) → device w u ≡ o → Holds reads outside.now u (elim o [ None ↦ lost | Some d ↦ d.media ])
      go None e = tt
      go (Some d) e = (stands.devices u d e).holds

  pub held-none : (u : ℕ) → outside.card u ≡ None → held-on w u ≡ lost
  held-none u none = go (device w u) refl
    where
      go : (o : Option Device) → device w u ≡ o → elim o [ None ↦ lost | Some d ↦ d.media ] ≡ lost
      go None e = refl
      go (Some d) e = absurd (both-ways (sym (ap is_some none) ∙ sym (stands.attached u) ∙ ap is_some e))

-- ---- the moments

module _ (reads : List ℕ → Option Store) (marks : Marks) (before : Outside) (c : Command) (kept : IsKept reads marks before)
    (history : (u : ℕ) → IsSome (before.card u) → MayLeave u before.now (image u before.now))
    (f : ℕ → Media) (stands : StandsFor reads marks before (meant_by f (known reads marks before))) where
  abbrev w0 : World
  w0 = known reads marks before

  abbrev s0 : World
  s0 = seen reads w0 before.now c

  abbrev w : World
  w = meant_by f w0

  abbrev v0 : World
  v0 = (answer s0 c).0

  -- what holds of the known world at a moment
  abbrev Then : Moment → Type 0
  Then m = Meanwhile reads marks.due w0 c v0 before.now m

  its-card : (u : ℕ) (s : Store) → Among (stores_on w u) s → IsSome (before.card u)
  its-card u s k = go (device w u) refl k
    where
      go : (o : Option Device) → device w u ≡ o → Among (elim o [ None ↦ [] | Some d ↦ stores_of d.media ]) s → IsSome (before.card u)
      go None e k = absurd k
      go (Some d) e k = sym (stands.attached u) ∙ ap is_some e

  -- a unit that may have a store is read as one
  pub is-read : (u : ℕ) (s : Store) → Among (stores_on w u) s → IsSome (reads (image u before.now))
  is-read u s k = ap is_some (stands-left reads marks before w stands u s (image u before.now) k (history u (its-card u s k))).2

  -- a unit of which a sync is due, and which may have a store
  pub due-left : (m : Moment) → Then m → (u : ℕ) → marks.due u ≡ true → (s : Store) → Among (stores_on w u) s → IsLeftAs u before.now m
  due-left m a u due s k = a.unsure u due (λ fmt. is-read u s k)

  -- a unit that is blank, and is not formatted
  pub blank-left : (m : Moment) → Then m → (u : ℕ) → IsBlankOn w u → formats s0 c u ≡ false → IsLeftAs u before.now m
  blank-left m a u is unformed = go (marks.due u) refl
    where
      go : (b : Bool) → marks.due u ≡ b → IsLeftAs u before.now m
      go true due = a.unsure u due (λ fmt. absurd (both-ways (sym unformed ∙ fmt)))
      go false due =
          let empty : IsBlankOn w0 u = blank-same f w0 u (known-sure reads marks before kept u due) is in
          let stays : StaysBlank w0 c v0 u = inl (formats-known reads marks before c kept u empty ∙ unformed) in
          record { image = a.answering.images u empty stays; left = λ left may. a.answering.others u left empty stays may }

  -- at each moment a crash leaves each unit as in the world that is meant or in the next one, where
  -- it does so on the units of which it is known what they hold, and on one that was to be formatted
  pub moments-to : (next : World) (Q : Moment → Type 0)
      → ((u : ℕ) (s : Store) (left : List ℕ) (m : Moment) → Then m → Q m → marks.due u ≡ false → Among (stores_on w u) s → MayLeave u m left → ReadsOneOf reads (stores_on w u ++ stores_on next u) left)
      → ((u : ℕ) (m : Moment) → Q m → formats s0 c u ≡ true → IsBlankOn next u → IsLeftAs u before.now m)
      → {now : Moment} → Always (λ m. Then m × Q m) before.now now → Always (Answering reads w c next before.now) before.now now
  moments-to next Q sure formed way = Always-map (λ m t. record {
    unread = t.0.answering.unread;
    quiet = t.0.answering.quiet;
    stores = λ u s left k may. stores u s left m t.0 t.1 k may (marks.due u) refl;
    images = λ u is stays. (empty-left m t.0 t.1 u is stays).image;
    others = λ u left is stays may. (empty-left m t.0 t.1 u is stays).left left may;
  }) way
    where
      empty-left : (m : Moment) → Then m → Q m → (u : ℕ) → IsBlankOn w u → StaysBlank w c next u → IsLeftAs u before.now m
      empty-left m a q u is (inl unformed) = blank-left m a u is (sym (formats-seen reads marks before c kept f stands u is) ∙ unformed)
      empty-left m a q u is (inr empty) = go (formats s0 c u) refl
        where
          go : (b : Bool) → formats s0 c u ≡ b → IsLeftAs u before.now m
          go false e = blank-left m a u is e
          go true e = formed u m q e empty

      stores : (u : ℕ) (s : Store) (left : List ℕ) (m : Moment) → Then m → Q m → Among (stores_on w u) s → MayLeave u m left → (b : Bool) → marks.due u ≡ b → ReadsOneOf reads (stores_on w u ++ stores_on next u) left
      stores u s left m a q k may true due =
          let r = stands-left reads marks before w stands u s left k ((due-left m a u due s k).left left may) in
          (r.0, among-left (stores_on w u) (stores_on next u) r.0 r.1, r.2)
      stores u s left m a q k may false due = sure u s left m a q due k may

  -- a unit of which it is known what it holds
  pub sure-stores : (u : ℕ) (s : Store) (left : List ℕ) (m : Moment) → Then m → marks.due u ≡ false → Among (stores_on w u) s → MayLeave u m left → ReadsOneOf reads (stores_on w u ++ stores_on v0 u) left
  sure-stores u s left m a due k may =
      let same = stores-same f w0 u (known-sure reads marks before kept u due) in
      subst (λ xs. ReadsOneOf reads (xs ++ stores_on v0 u) left) (sym same) (a.answering.stores u s left (subst (λ xs. Among xs s) same k) may)

  -- the next world is that of the answer
  pub plain-moments : {now : Moment} → Always Then before.now now → Always (Answering reads w c (meant_by f v0) before.now) before.now now
  plain-moments way = moments-to (meant_by f v0) (λ _. Unit {0})
      (λ u s left m a q due k may. subst (λ xs. ReadsOneOf reads (stores_on w u ++ xs) left) (sym (stores-same f v0 u (due-answer reads marks before c kept u due))) (sure-stores u s left m a due k may))
      (λ u m q fmt is. absurd (not-empty u fmt is)) (Always-map (λ m a. (a, tt)) way)
    where
      not-empty : (u : ℕ) → formats s0 c u ≡ true → IsBlankOn (meant_by f v0) u → ⊥
      not-empty u fmt is = go (device v0 u) refl (sym (device-m f v0 u) ∙ is.1)
        where
          has : Media → Bool
          has m = is_some (store_of m)

          go : (o : Option Device) → device v0 u ≡ o → option_map (over_device (f u)) o ≡ Some is.0 → ⊥
          go None e h = none-some is.0 h
          go (Some d) e h =
              let o = formatted-one s0 c u fmt d e in
              both-ways (sym (ap has is.2) ∙ ap (λ (x : Device). has x.media) (sym (some-same (over_device (f u) d) is.0 h)) ∙ ap (λ m. has (over (f u) m)) o.1)

  -- ---- the world that is stood for then

  module _ (next : Marks) (after : Outside) (then : IsKept reads next after) (cards : SameCards before after)
      (holds : (u : ℕ) → marks.due u ≡ true → Holds reads before.now u (f u)) (none : (u : ℕ) → before.card u ≡ None → f u ≡ lost) where
    -- where it is that of the answer
    pub plain-stands : v0 ≡ known reads next after → Then after.now → StandsFor reads next after (meant_by f v0)
    plain-stands is last = subst (λ (x : World). StandsFor reads next after (meant_by f x)) (sym is) (meant-stands reads next after then f each)
      where
        each : (u : ℕ) → next.due u ≡ true → Holds reads after.now u (f u)
        each u due = go (before.card u) refl
          where
            go : (card : Option (List ℕ)) → before.card u ≡ card → Holds reads after.now u (f u)
            go None e = subst (Holds reads after.now u) (sym (none u e)) tt
            go (Some name) e =
                let d = known-some reads next after then u (ap is_some (cards.card u ∙ e)) in
                let unsure = known-due reads next after then u d.0 d.1 ∙ due in
                let old = answer-due reads marks before c kept u (ap (λ (x : World). unsure_on x u) is ∙ unsure-by (known reads next after) u d.0 d.1 ∙ unsure) in
                holds-left reads before.now after.now u (f u) (last.unsure u old (λ fmt.
                let o = formatted-one s0 c u fmt d.0 (ap (λ (x : World). device x u) is ∙ d.1) in absurd (both-ways (sym (ap is_unsure o.1) ∙ unsure))))
                (holds u old)

-- ---- where no device fails

module _ (reads : List ℕ → Option Store) (marks : Marks) (before : Outside) (c : Command) (kept : IsKept reads marks before)
    (history : (u : ℕ) → IsSome (before.card u) → MayLeave u before.now (image u before.now))
    (good : (u : ℕ) (s : Store) → IsSome (before.card u) → reads (image u before.now) ≡ Some s → IsTrue (valid (before.blocks u) s)) (after : Outside)
    (way : Always (Meanwhile reads marks.due (known reads marks before) c (answer (seen reads (known reads marks before) before.now c) c).0 before.now) before.now after.now) where
  abbrev NextFrom : Marks → Reply → World → Type 0
  NextFrom next r w = (v : World) × Turned reads w c before.now v r × StandsFor reads next after v × Always (Answering reads w c v before.now) before.now after.now

  -- the command is answered
  pub lift-answer : (next : Marks) → IsKept reads next after → SameCards before after → (r : Reply) → answer (seen reads (known reads marks before) before.now c) c ≡ (known reads next after, r)
      → (w : World) → StandsFor reads marks before w → NextFrom next r w
  lift-answer next then cards r is w stands = subst (NextFrom next r) (sym meant) (meant_by f v, turned, standing, plain-moments reads marks before c kept history f here way)
    where
      f : ℕ → Media
      f = held-on w

      v : World
      v = (answer (seen reads (known reads marks before) before.now c) c).0

      meant : w ≡ meant_by f (known reads marks before)
      meant = meant-held reads marks before kept w stands

      here : StandsFor reads marks before (meant_by f (known reads marks before))
      here = subst (StandsFor reads marks before) meant stands

      plain : answer (seen reads (meant_by f (known reads marks before)) before.now c) c ≡ (meant_by f v, r)
      plain = answer-seen reads marks before c kept f here ∙ ap {B = World × Reply} (λ x. (meant_by f v, x)) (ap {A = World × Reply} (λ a. a.1) is)

      turned : Turned reads (meant_by f (known reads marks before)) c before.now (meant_by f v) r
      turned = record {
        step = subst (λ (a : World × Reply). Step (meant_by f (known reads marks before)) c a.0 a.1) plain (seen-step reads marks before (meant_by f (known reads marks before)) c here history good);
        is_plain = λ quiet. plain;
      }

      standing : StandsFor reads next after (meant_by f v)
      standing = plain-stands reads marks before c kept history f here next after then cards (λ u due. held-holds reads marks before kept w stands u) (held-none reads marks before kept w stands)
          (ap {A = World × Reply} (λ a. a.0) is) (Always-last way)

  -- memory was refused
  pub lift-memory : (w : World) → StandsFor reads marks before w → Always (Answering reads w c (answer (seen reads w before.now c) c).0 before.now) before.now after.now
  lift-memory w stands = subst (λ (x : World). Always (Answering reads x c (answer (seen reads x before.now c) c).0 before.now) before.now after.now) (sym meant)
      (subst (λ (a : World × Reply). Always (Answering reads (meant_by f (known reads marks before)) c a.0 before.now) before.now after.now) (sym (answer-seen reads marks before c kept f here))
      (plain-moments reads marks before c kept history f here way))
    where
      f : ℕ → Media
      f = held-on w

      meant : w ≡ meant_by f (known reads marks before)
      meant = meant-held reads marks before kept w stands

      here : StandsFor reads marks before (meant_by f (known reads marks before))
      here = subst (StandsFor reads marks before) meant stands
