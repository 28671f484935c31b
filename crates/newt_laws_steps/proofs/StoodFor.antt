-- The worlds that a value stands for are those of what is meant of the units of which a sync is due.
use Rattle.std.proofs.Common.{arith, ◌≡◌, ◌≢◌, ◌⊎◌, inl, inr, refl, ap, sym, ◌∙◌, subst, ℕ, zero, suc, ◌<◌, ◌≤◌, Bool, true, false, List, [], ◌∷◌, length, map, Option, Some, None, option_map, IsSome, if◌then◌else◌}
use Rattle.std.specs.Prelude.{is_some, slice_get}
use Rattle.newt_host.specs.Moments.{IsDurable, image}
use Rattle.newt_host.specs.Outside.{Outside}
use Rattle.newt_spec_graph.proofs.Lists.{none-some, some-same}
use Rattle.newt_spec_store.specs.Store.{Store}
use Rattle.newt_spec_world.specs.First.{media_of, unit_numbers}
use Rattle.newt_spec_world.specs.World.{World, Device, Media, blank, one, two, lost, flat, is_unsure, device, settle}
use Rattle.newt_laws_steps.specs.Meant.{MountedSure, media_on, meant_by, over, over_device, over_units, put_at}
use Rattle.newt_laws_steps.specs.StandsFor.{Holds, IsDeviceOf, IsKept, Marks, StandsFor, known, known_device}
use Rattle.newt_laws_steps.proofs.Meant.{get-over, known-over}
use Rattle.newt_laws_steps.proofs.MeantAnswer.{settle-m}
use Rattle.newt_laws_steps.proofs.MeantSteps.{put-here, put-other, thrown-m}
use Rattle.newt_laws_world.proofs.Units.{same-or-not}
use Rattle.newt_spec_world.specs.Step.{thrown_out}

-- ---- units by their numbers

-- as many units, and at each number the same, are the same units
units-same : (xs ys : List (Option Device)) → length xs ≡ length ys → ((u : ℕ) → u < length xs → flat (slice_get xs u) ≡ flat (slice_get ys u)) → xs ≡ ys
units-same [] [] e h = refl
units-same [] (y ∷ ys) e h = absurd (omega arith)
units-same (x ∷ xs) [] e h = absurd (omega arith)
units-same (x ∷ xs) (y ∷ ys) e h =
    ap (λ (z : Option Device). z ∷ xs) (h zero (omega arith)) ∙ ap (λ (zs : List (Option Device)). y ∷ zs) (units-same xs ys (omega arith) (λ u l. h (suc u) (omega arith)))

-- the unit of a number is that of its function, and after the eighth there is none
at-number : (f : ℕ → Option Device) (u : ℕ) → (flat (slice_get (map f unit_numbers) u) ≡ f u) ⊎ ((8 ≤ u) × (flat (slice_get (map f unit_numbers) u) ≡ None))
at-number f zero = inl refl
at-number f (suc zero) = inl refl
at-number f (suc (suc zero)) = inl refl
at-number f (suc (suc (suc zero))) = inl refl
at-number f (suc (suc (suc (suc zero)))) = inl refl
at-number f (suc (suc (suc (suc (suc zero))))) = inl refl
at-number f (suc (suc (suc (suc (suc (suc zero)))))) = inl refl
at-number f (suc (suc (suc (suc (suc (suc (suc zero))))))) = inl refl
at-number f (suc (suc (suc (suc (suc (suc (suc (suc n)))))))) = inr (omega arith, refl)

never-both : {A : Type 0} (b : Bool) → b ≡ true → b ≡ false → A
never-both b h k = cc

there : {A : Type 0} (o : Option A) → is_some o ≡ true → (x : A) × (o ≡ Some x)
there None h = cc
there (Some x) h = (x, refl)

not-there : {A : Type 0} (o : Option A) → is_some o ≡ false → o ≡ None
not-there None h = refl
not-there (Some x) h = cc

media-sure : (o : Option Store) → is_unsure (media_of o) ≡ false
media-sure None = refl
media-sure (Some s) = refl

module _ (reads : List ℕ → Option Store) where
  -- what a unit holds of which no sync is due is what its image is read as
  held-known : (outside : Outside) (u : ℕ) (m : Media) → is_unsure m ≡ false → Holds reads outside.now u m → media_of (reads (image u outside.now)) ≡ m
  held-known outside u blank h holds = ap media_of holds.1
  held-known outside u (one s) h holds = ap media_of holds.1
  held-known outside u (two a b) h holds = cc
  held-known outside u lost h holds = cc

  -- ---- a world that is stood for is what is meant by it

  module _ (marks : Marks) (outside : Outside) (w : World) (stands : StandsFor reads marks outside w) where
    meant-media : (u : ℕ) (d : Device) → IsDeviceOf reads marks outside u d → (b : Bool) → marks.due u ≡ b
        → over d.media (if b then lost else media_of (reads (image u outside.now))) ≡ d.media
    meant-media u d of true due = refl
    meant-media u d of false due = known-over d.media (media_of (reads (image u outside.now))) (media-sure (reads (image u outside.now))) ∙ held-known outside u d.media (sure (is_unsure d.media) refl) of.holds
      where
        sure : (b : Bool) → is_unsure d.media ≡ b → is_unsure d.media ≡ false
        sure false e = e
        sure true e = never-both (marks.due u) (of.due e) due

    meant-device : (u : ℕ) → device w u ≡ option_map (over_device (media_on w u)) (known_device reads marks outside u)
    meant-device u = go (device w u) refl
      where
        at : Option Device → Media
        at o = elim o [ None ↦ blank | Some d ↦ d.media ]

        go : (o : Option Device) → device w u ≡ o → device w u ≡ option_map (over_device (media_on w u)) (known_device reads marks outside u)
        go None e = e ∙ sym (ap (λ (card : Option (List ℕ)). option_map {T = Device} (over_device (media_on w u)) (option_map {U = Device} (λ name. record {
          blocks = outside.blocks u;
          media = if marks.due u then lost else media_of (reads (image u outside.now));
          mounted = marks.mounted u;
        }) card))
            (not-there (outside.card u) (sym (stands.attached u) ∙ ap is_some e)))
        go (Some d) e =
            let of = stands.devices u d e in
            let name = there (outside.card u) (sym (stands.attached u) ∙ ap is_some e) in
            let same : d ≡ record { blocks = outside.blocks u; media = over (media_on w u) (if marks.due u then lost else media_of (reads (image u outside.now))); mounted = marks.mounted u } =
            ap (λ (n : ℕ). let x : Device = record { blocks = n; media = d.media; mounted = d.mounted } in x) of.blocks
            ∙ ap (λ (m : Media). let x : Device = record { blocks = outside.blocks u; media = m; mounted = d.mounted } in x)
            (sym (ap (λ (m : Media). over m (if marks.due u then lost else media_of (reads (image u outside.now)))) (ap at e) ∙ meant-media u d of (marks.due u) refl))
            ∙ ap (λ (b : Bool). let x : Device = record { blocks = outside.blocks u; media = over (media_on w u) (if marks.due u then lost else media_of (reads (image u outside.now))); mounted = b } in x) of.mounted in
            e ∙ ap {A = Device} Some same ∙ sym (ap (λ (card : Option (List ℕ)). option_map {T = Device} (over_device (media_on w u)) (option_map {U = Device} (λ name. record {
              blocks = outside.blocks u;
              media = if marks.due u then lost else media_of (reads (image u outside.now));
              mounted = marks.mounted u;
            }) card)) name.1)

    pub stood-for-meant : w ≡ meant_by (media_on w) (known reads marks outside)
    stood-for-meant =
        ap (λ (us : List (Option Device)). record w { units = us }) (units-same w.units (over_units (media_on w) (map (known_device reads marks outside) unit_numbers)) stands.eight each)
        ∙ ap (λ (d : Option ℕ). record (meant_by (media_on w) (known reads marks outside)) { default = d; minute = w.minute; cursors = w.cursors }) stands.default
        ∙ ap (λ (m : ℕ). record (meant_by (media_on w) (known reads marks outside)) { minute = m; cursors = w.cursors }) stands.minute
        ∙ ap (λ ks. record (meant_by (media_on w) (known reads marks outside)) { cursors = ks }) stands.cursors
      where
        each : (u : ℕ) → u < length w.units → device w u ≡ flat (slice_get (over_units (media_on w) (map (known_device reads marks outside) unit_numbers)) u)
        each u l = go (at-number (known_device reads marks outside) u)
          where
            go : (flat (slice_get (map (known_device reads marks outside) unit_numbers) u) ≡ known_device reads marks outside u)
                ⊎ ((8 ≤ u) × (flat (slice_get (map (known_device reads marks outside) unit_numbers) u) ≡ None))
                → device w u ≡ flat (slice_get (over_units (media_on w) (map (known_device reads marks outside) unit_numbers)) u)
            go (inl e) = meant-device u ∙ sym (get-over (media_on w) (map (known_device reads marks outside) unit_numbers) u ∙ ap (option_map (over_device (media_on w u))) e)
            go (inr e) = let far : 8 ≤ u = e.0 in let near : u < 8 = subst (λ n. u < n) stands.eight l in absurd (omega arith)

  -- ---- whatever is meant is stood for

  module _ (marks : Marks) (outside : Outside) (kept : IsKept reads marks outside) where
    known-sure : MountedSure (known reads marks outside)
    known-sure u d e mounted = go (at-number (known_device reads marks outside) u)
      where
        held : (b : Bool) → marks.due u ≡ b → marks.mounted u ≡ true → is_unsure (if b then lost else media_of (reads (image u outside.now))) ≡ false
        held true due on = never-both (marks.due u) due (kept.sure u on)
        held false due on = media-sure (reads (image u outside.now))

        made : (card : Option (List ℕ)) → option_map {U = Device} (λ name. record {
          blocks = outside.blocks u;
          media = if marks.due u then lost else media_of (reads (image u outside.now));
          mounted = marks.mounted u;
        }) card ≡ Some d → is_unsure d.media ≡ false
        made None h = absurd (none-some d h)
        made (Some name) h =
            let same = some-same (record { blocks = outside.blocks u; media = if marks.due u then lost else media_of (reads (image u outside.now)); mounted = marks.mounted u }) d h in
            ap (λ (x : Device). is_unsure x.media) (sym same) ∙ held (marks.due u) refl (ap (λ (x : Device). x.mounted) same ∙ mounted)

        go : (flat (slice_get (map (known_device reads marks outside) unit_numbers) u) ≡ known_device reads marks outside u)
            ⊎ ((8 ≤ u) × (flat (slice_get (map (known_device reads marks outside) unit_numbers) u) ≡ None)) → is_unsure d.media ≡ false
        go (inl is) = made (outside.card u) (sym is ∙ e)
        go (inr is) = absurd (none-some d (sym is.1 ∙ e))

    module _ (meant : ℕ → Media) (holds : (u : ℕ) → marks.due u ≡ true → Holds reads outside.now u (meant u)) where
      device-meant : (u : ℕ) → IsSome (outside.card u)
          → IsDeviceOf reads marks outside u (record { blocks = outside.blocks u; media = over (meant u) (if marks.due u then lost else media_of (reads (image u outside.now))); mounted = marks.mounted u })
      device-meant u card = record {
        blocks = refl;
        mounted = refl;
        one_store = λ on. let r = kept.stores u on in
            (r.0, ap (λ (b : Bool). over (meant u) (if b then lost else media_of (reads (image u outside.now)))) (kept.sure u on) ∙ ap (λ (o : Option Store). over (meant u) (media_of o)) r.1);
        due = λ h. unsure (marks.due u) refl h;
        holds = held (marks.due u) refl;
      }
        where
          sure : (o : Option Store) → is_unsure (over (meant u) (media_of o)) ≡ false
          sure None = refl
          sure (Some s) = refl

          unsure : (b : Bool) → marks.due u ≡ b → is_unsure (over (meant u) (if b then lost else media_of (reads (image u outside.now)))) ≡ true → marks.due u ≡ true
          unsure true e h = e
          unsure false e h = never-both (is_unsure (over (meant u) (media_of (reads (image u outside.now))))) h (sure (reads (image u outside.now)))

          one-or-none : IsDurable u outside.now → (o : Option Store) → reads (image u outside.now) ≡ o → Holds reads outside.now u (over (meant u) (media_of o))
          one-or-none durable None e = (durable, e)
          one-or-none durable (Some s) e = (durable, e)

          held : (b : Bool) → marks.due u ≡ b → Holds reads outside.now u (over (meant u) (if b then lost else media_of (reads (image u outside.now))))
          held true e = holds u e
          held false e = one-or-none (kept.durable u card e) (reads (image u outside.now)) refl

      some-mapped : {A B : Type 0} (g : A → B) (o : Option A) → is_some (option_map g o) ≡ is_some o
      some-mapped g None = refl
      some-mapped g (Some x) = refl

      attached-meant : (u : ℕ) → is_some (device (meant_by meant (known reads marks outside)) u) ≡ is_some (outside.card u)
      attached-meant u = ap is_some (get-over meant (map (known_device reads marks outside) unit_numbers) u) ∙ some-mapped (over_device (meant u)) (flat (slice_get (map (known_device reads marks outside) unit_numbers) u))
          ∙ go (at-number (known_device reads marks outside) u)
        where
          go : (flat (slice_get (map (known_device reads marks outside) unit_numbers) u) ≡ known_device reads marks outside u)
              ⊎ ((8 ≤ u) × (flat (slice_get (map (known_device reads marks outside) unit_numbers) u) ≡ None))
              → is_some (flat (slice_get (map (known_device reads marks outside) unit_numbers) u)) ≡ is_some (outside.card u)
          go (inl is) = ap is_some is ∙ some-mapped {B = Device} (λ name. record {
            blocks = outside.blocks u;
            media = if marks.due u then lost else media_of (reads (image u outside.now));
            mounted = marks.mounted u;
          }) (outside.card u)
          go (inr is) = ap is_some is.1 ∙ sym (ap is_some (kept.eight u is.0))

      pub meant-stands : StandsFor reads marks outside (meant_by meant (known reads marks outside))
      meant-stands = record {
        settled = settle-m meant (known reads marks outside) known-sure ∙ ap (meant_by meant) kept.settled;
        eight = refl;
        default = refl;
        minute = refl;
        cursors = refl;
        attached = attached-meant;
        devices = λ u d e. found u d (sym (get-over meant (map (known_device reads marks outside) unit_numbers) u) ∙ e) (at-number (known_device reads marks outside) u);
      }
        where
          made : (u : ℕ) (d : Device) (card : Option (List ℕ)) → outside.card u ≡ card → option_map (over_device (meant u)) (option_map {U = Device} (λ name. record {
            blocks = outside.blocks u;
            media = if marks.due u then lost else media_of (reads (image u outside.now));
            mounted = marks.mounted u;
          }) card) ≡ Some d → IsDeviceOf reads marks outside u d
          made u d None is h = absurd (none-some d h)
          made u d (Some name) is h = subst (IsDeviceOf reads marks outside u)
              (some-same (record { blocks = outside.blocks u; media = over (meant u) (if marks.due u then lost else media_of (reads (image u outside.now))); mounted = marks.mounted u }) d h)
              (device-meant u (ap is_some is))

          found : (u : ℕ) (d : Device) → option_map (over_device (meant u)) (flat (slice_get (map (known_device reads marks outside) unit_numbers) u)) ≡ Some d
              → (flat (slice_get (map (known_device reads marks outside) unit_numbers) u) ≡ known_device reads marks outside u)
              ⊎ ((8 ≤ u) × (flat (slice_get (map (known_device reads marks outside) unit_numbers) u) ≡ None)) → IsDeviceOf reads marks outside u d
          found u d h (inl is) = made u d (outside.card u) refl (sym (ap (option_map (over_device (meant u))) is) ∙ h)
          found u d h (inr is) = absurd (none-some d (sym (ap (option_map (over_device (meant u))) is.1) ∙ h))

    -- nothing is meant of a unit of which nothing is known
    over-lost : (us : List (Option Device)) → over_units (λ _. lost) us ≡ us
    over-lost [] = refl
    over-lost (d ∷ ds) = ap (λ (x : Option Device). x ∷ over_units (λ _. lost) ds) (same d) ∙ ap (λ (xs : List (Option Device)). d ∷ xs) (over-lost ds)
      where
        kept-media : (m : Media) → over lost m ≡ m
        kept-media blank = refl
        kept-media (one s) = refl
        kept-media (two a b) = refl
        kept-media lost = refl

        same : (d : Option Device) → option_map (over_device lost) d ≡ d
        same None = refl
        same (Some d) = ap (λ (m : Media). let x : Option Device = Some (record d { media = m }) in x) (kept-media d.media)

    pub known-stands : StandsFor reads marks outside (known reads marks outside)
    known-stands = subst (StandsFor reads marks outside) (ap (λ (us : List (Option Device)). record (known reads marks outside) { units = us }) (over-lost (map (known_device reads marks outside) unit_numbers)))
        (meant-stands (λ _. lost) (λ u due. tt))

-- ---- a unit is thrown out

pub thrown-stands : (reads : List ℕ → Option Store) (marks : Marks) (outside : Outside) (w : World) (meant : ℕ → Media) (u : ℕ) (change : Media → Media) (d : Device) → MountedSure w
    → IsKept reads marks outside → known reads marks outside ≡ settle (thrown_out w u (λ _. lost)) → device w u ≡ Some d → Holds reads outside.now u (change (over (meant u) d.media))
    → ((n : ℕ) → n ≢ u → marks.due n ≡ true → Holds reads outside.now n (meant n)) → StandsFor reads marks outside (settle (thrown_out (meant_by meant w) u change))
thrown-stands reads marks outside w meant u change d sure kept is at here others = subst (StandsFor reads marks outside)
    (sym (thrown-m meant w u change (change (over (meant u) d.media)) sure (λ x e. ap (λ (y : Device). change (over (meant u) y.media)) (some-same x d (sym e ∙ at)))
    ∙ ap (meant_by (put_at u (change (over (meant u) d.media)) meant)) (sym is)))
    (meant-stands reads marks outside kept (put_at u (change (over (meant u) d.media)) meant) (λ n due. go n due (same-or-not n u)))
  where
    go : (n : ℕ) → marks.due n ≡ true → (n ≡ u) ⊎ (n ≡ u → ⊥) → Holds reads outside.now n (put_at u (change (over (meant u) d.media)) meant n)
    go n due (inl e) = subst (λ x. Holds reads outside.now x (put_at u (change (over (meant u) d.media)) meant x)) (sym e)
        (subst (Holds reads outside.now u) (sym (put-here meant u (change (over (meant u) d.media)))) here)
    go n due (inr differs) = subst (Holds reads outside.now n) (sym (put-other meant u n (change (over (meant u) d.media)) differs)) (others n differs due)
