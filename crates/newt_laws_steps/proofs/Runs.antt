-- Runs where no device fails, and what is held after any run.
use Rattle.std.proofs.Common.{◌≡◌, refl, ap, sym, ◌∙◌, subst, ℕ, List, [], ◌∷◌, true, false, Bool, ◌&&◌, inl, Option, Some, None, is_none, option_and_then, option_map, if◌then◌else◌}
use Rattle.std.specs.Prelude.{Ok, Err, slice_get}
use Rattle.newt_base.specs.Refusals.{first_of}
use Rattle.newt_spec_world.specs.declared.command.Command.{Command}
use Rattle.newt_spec_world.specs.Reply.{Reply}
use Rattle.newt_spec_world.specs.World.{World, Device, Media, blank, one, two, lost, is_unsure, device, stores_on, unsure_on}
use Rattle.newt_spec_store.specs.Store.{Store}
use Rattle.newt_spec_world.specs.Answer.{answer}
use Rattle.newt_spec_world.specs.First.{device_of, media_of, unit_numbers, unit_of, world_of}
use Rattle.newt_spec_world.specs.Step.{Step, plain, found, MayTurnOut, with_media, looks_at, look_checks, unsure_look, looks_anew}
use Rattle.newt_spec_script.specs.Script.{Item, step, replies_to, world_after}
use Rattle.newt_spec_script.specs.Rows.{IsRun, Goes, Row, replies_of, last_world}
use Rattle.newt_laws_changes.specs.Later.{EntryGone, SoupGone}
use Rattle.newt_laws_changes.proofs.Later.{entry-gone, soup-gone}
use Rattle.newt_laws_steps.specs.Steps.{AllSure, AreQuiet, IsQuiet, WorldMayBeLater, EntryGoneOn, SoupGoneOn}
use Rattle.newt_laws_world.proofs.Runs.{mapped-at}
use Rattle.newt_spec_graph.proofs.Lists.{each-at, each-from, none-some, some-same}
use Rattle.newt_laws_steps.proofs.Stepping.{answer-sure, quiet-plain, step-later, stores-not, stores-trans}

-- ---- at the start

-- it is known what each unit holds: the store that its image is read as, or none
pub first-sure : (reads : List ℕ → Option Store) (held : List ℕ → Option (List ℕ)) (names : List (List ℕ)) → AllSure (world_of reads held names)
first-sure reads held names u = go (device (world_of reads held names) u) refl
  where
    at : Option Device → Bool
    at o = elim o [ None ↦ false | Some d ↦ is_unsure d.media ]

    known : (o : Option Store) → is_unsure (media_of o) ≡ false
    known None = refl
    known (Some s) = refl

    made : (o : Option (List ℕ)) (d : Device) → option_map (device_of reads held) o ≡ Some d → is_unsure d.media ≡ false
    made None d h = absurd (none-some d h)
    made (Some image) d h = ap (λ (x : Device). is_unsure x.media) (sym (some-same (device_of reads held image) d h)) ∙ known (reads image)

    go : (o : Option Device) → device (world_of reads held names) u ≡ o → at (device (world_of reads held names) u) ≡ false
    go None e = ap at e
    go (Some d) e = let r = mapped-at (unit_of reads held names) unit_numbers u d e in ap at e ∙ made (option_and_then held (slice_get names r.0)) d r.1

-- ---- without a failure

quiet-goes : (w : World) (x : Item) (v : World) (r : Reply) → AllSure w → Goes Step w x (v, r) → IsQuiet r → step answer w x ≡ (v, r)
quiet-goes w (Ok c) v r h s quiet = quiet-plain w c v r h s quiet
quiet-goes w (Err refusal) v r h s quiet = let both : (w, Reply.refused refusal) ≡ (v, r) = ap (λ x. (x, Reply.refused refusal)) (sym s.0) ∙ ap (λ y. (v, y)) (sym s.1) in both

step-sure : (w : World) (x : Item) → AllSure w → AllSure (step answer w x).0
step-sure w (Ok c) h = answer-sure w c h
step-sure w (Err refusal) h = h

pub quiet-run : (w : World) (items : List Item) (rows : List (Row World)) → AllSure w → IsRun Step w items rows → AreQuiet rows
    → (replies_of rows ≡ replies_to answer w items) × (last_world w rows ≡ world_after answer w items)
quiet-run w [] [] h run quiet = (refl, refl)
quiet-run w [] (row ∷ rows) h run quiet = absurd run
quiet-run w (x ∷ xs) [] h run quiet = absurd run
quiet-run w (x ∷ xs) (row ∷ rows) h run quiet =
    let is = quiet-goes w x row.0 row.1 h run.0 quiet.0 in
    let sure = subst (λ (p : World × Reply). AllSure p.0) is (step-sure w x h) in
    let rest = quiet-run row.0 xs rows sure run.1 quiet.1 in
    (ap (λ (rs : List Reply). row.1 ∷ rs) rest.0 ∙ sym (ap (λ (p : World × Reply). p.1 ∷ replies_to answer p.0 xs) is), rest.1 ∙ sym (ap (λ (p : World × Reply). world_after answer p.0 xs) is))

-- ---- with any

later-not : (w : World) → WorldMayBeLater w w
later-not w u s k = stores-not (stores_on w u) s k

later-trans : (w v x : World) → WorldMayBeLater w v → WorldMayBeLater v x → WorldMayBeLater w x
later-trans w v x h k u s a = let r = h u s a in stores-trans (stores_on w u) (stores_on v u) (stores_on x u) r (k u r.some.0 r.some.1)

goes-later : (w : World) (x : Item) (v : World) (r : Reply) → Goes Step w x (v, r) → WorldMayBeLater w v
goes-later w (Ok c) v r s = step-later w c v r s
goes-later w (Err refusal) v r s = subst (WorldMayBeLater w) (sym s.0) (later-not w)

pub run-later : (w : World) (items : List Item) (rows : List (Row World)) → IsRun Step w items rows → WorldMayBeLater w (last_world w rows)
run-later w [] [] run = later-not w
run-later w [] (row ∷ rows) run = absurd run
run-later w (x ∷ xs) [] run = absurd run
run-later w (x ∷ xs) (row ∷ rows) run = later-trans w row.0 (last_world row.0 rows) (goes-later w x row.0 row.1 run.0) (run-later row.0 xs rows run.1)

pub entries-later : (w v : World) (u sig uid : ℕ) → WorldMayBeLater w v → EntryGoneOn w u sig uid → EntryGoneOn v u sig uid
entries-later w v u sig uid h g = let r = h u g.some.0 g.some.1 in record {
  some = r.some;
  gone = each-from (EntryGone sig uid) (stores_on v u) (λ t k. let q = r.each t k in entry-gone sig uid q.0 t q.2 (each-at (EntryGone sig uid) (stores_on w u) q.0 g.gone q.1));
}

pub soups-later : (w v : World) (u sig : ℕ) → WorldMayBeLater w v → SoupGoneOn w u sig → SoupGoneOn v u sig
soups-later w v u sig h g = let r = h u g.some.0 g.some.1 in record {
  some = r.some;
  gone = each-from (SoupGone sig) (stores_on v u) (λ t k. let q = r.each t k in soup-gone sig q.0 t q.2 (each-at (SoupGone sig) (stores_on w u) q.0 g.gone q.1));
}

-- ---- there is a step

pub step-there : (w : World) (c : Command) → (v : World) × (r : Reply) × Step w c v r
step-there w c = go (looks_at c) refl
  where
    by : (x : World) → (v : World) × (r : Reply) × (answer x c ≡ (v, r))
    by x = ((answer x c).0, (answer x c).1, refl)

    asked : (u : ℕ) → looks_at c ≡ Some u → (o : Option Device) → device w u ≡ o → (b : Bool) → (is_none (first_of (look_checks w u)) && unsure_on w u) ≡ b → (v : World) × (r : Reply) × Step w c v r
    asked u is o on false e = ((answer w c).0, (answer w c).1, plain (ap (option_and_then (unsure_look w)) is ∙ ap (λ (b : Bool). let x : Option ℕ = if b then Some u else None in x) e) refl)
    asked u is o on true e = turned (ap (option_and_then (unsure_look w)) is ∙ ap (λ (b : Bool). let x : Option ℕ = if b then Some u else None in x) e) o on (unsure (is_none (first_of (look_checks w u))) (unsure_on w u) e)
      where
        unsure : (a b : Bool) → a && b ≡ true → b ≡ true
        unsure true b h = h
        unsure false b h = cc

        find : (d : Device) → device w u ≡ Some d → looks_anew w c ≡ Some u → (m : Media) → MayTurnOut d.blocks d.media m → (v : World) × (r : Reply) × Step w c v r
        find d on looks m may = ((answer (with_media w u m) c).0, (answer (with_media w u m) c).1, found looks (record { on = d; there = on; holds = m; may = may; is = refl }) refl)

        by-media : (d : Device) → device w u ≡ Some d → looks_anew w c ≡ Some u → (m : Media) → d.media ≡ m → is_unsure m ≡ true → (v : World) × (r : Reply) × Step w c v r
        by-media d on looks blank is h = cc
        by-media d on looks (one s) is h = cc
        by-media d on looks (two a b) is h = find d on looks (one a) (subst (λ x. MayTurnOut d.blocks x (one a)) (sym is) (inl refl))
        by-media d on looks lost is h = find d on looks blank (subst (λ x. MayTurnOut d.blocks x blank) (sym is) (inl refl))

        turned : looks_anew w c ≡ Some u → (o : Option Device) → device w u ≡ o → unsure_on w u ≡ true → (v : World) × (r : Reply) × Step w c v r
        turned looks None on h = absurd (no-device h on)
          where
            no-device : unsure_on w u ≡ true → device w u ≡ None → ⊥
            no-device h on = absurd (true-false (sym h ∙ ap (λ (o : Option Device). let b : Bool = elim o [ None ↦ false | Some d ↦ is_unsure d.media ] in b) on))
              where
                true-false : true ≡ false → ⊥
                true-false e = cc
        turned looks (Some d) on h = by-media d on looks d.media refl (sym (ap (λ (o : Option Device). let b : Bool = elim o [ None ↦ false | Some d ↦ is_unsure d.media ] in b) on) ∙ h)

    go : (o : Option ℕ) → looks_at c ≡ o → (v : World) × (r : Reply) × Step w c v r
    go None is = ((answer w c).0, (answer w c).1, plain (ap (option_and_then (unsure_look w)) is) refl)
    go (Some u) is = asked u is (device w u) refl (is_none (first_of (look_checks w u)) && unsure_on w u) refl
