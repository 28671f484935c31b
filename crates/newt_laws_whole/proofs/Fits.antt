-- Each working copy's draft can be an entry's graph.
use Rattle.std.proofs.Common.{arith, ◌≡◌, refl, ap, sym, ◌∙◌, subst, ℕ, zero, suc, List, [], ◌∷◌, true, false, Bool, not, ◌&&◌, ◌⊎◌, inl, inr, Option, Some, None, option_and_then, unwrap_or, slice_set, nat_lt, nat_le}
use Rattle.std.specs.Prelude.{slice_get, is_none, ◌==◌}
use Rattle.std.proofs.lemmas.Bool.{and_parts}
use Rattle.newt_base.specs.Refusals.{first_of}
use Rattle.newt_base.specs.declared.Refusal.{Refusal}
use Rattle.newt_graph.specs.Graph.{RawGraph}
use Rattle.newt_graph.specs.Meeting.{normal_form}
use Rattle.newt_spec_graph.specs.Graph.{is_frame, object}
use Rattle.newt_spec_graph.specs.Limits.{within_limits, is_within}
use Rattle.newt_spec_graph.specs.Slots.{put}
use Rattle.newt_spec_graph.proofs.Lists.{some-same, none-some}
use Rattle.newt_spec_store.specs.Cost.{skeleton_length}
use Rattle.newt_spec_store.specs.Keys.{Path}
use Rattle.newt_spec_store.specs.Store.{Entry, Soup, Store, soup_named, entry_of}
use Rattle.newt_spec_store.specs.Valid.{valid_entry, valid_soup, well_formed}
use Rattle.newt_base.specs.Names.{equal_text}
use Rattle.newt_laws_images.proofs.Stores.{is-soup, is-store}
use Rattle.newt_laws_changes.proofs.Soups.{found-good}
use Rattle.newt_work.specs.Work.{Copy, opened, edited, rebased, draft_with, drafted}
use Rattle.newt_spec_world.specs.World.{World, flat, change_at, mounted_store, soup_in, entry_in}
use Rattle.newt_spec_world.specs.Changed.{graph_after_set}
use Rattle.newt_spec_world.specs.Refused.{on_some}
use Rattle.newt_spec_world.specs.Alias.{Spot}
use Rattle.newt_spec_world.specs.declared.command.Command.{Command}
use Rattle.newt_spec_world.specs.declared.command.Command.TheVariants as command
use Rattle.newt_laws_world.proofs.Units.{at-same, at-other, same-or-not, mapped}
use Rattle.newt_laws_world.proofs.Aliases.{named-by}
use Rattle.newt_laws_world.specs.Named.{IsNamed}
use Rattle.newt_laws_images.proofs.Chosen.{there-named, there-entry, soup-good}
use Rattle.newt_spec_whole.specs.Whole.{Whole, copy, free_copy, living, alias_of_copy}
use Rattle.newt_spec_whole.specs.Refused.{whole_checks, no_copy, no_path_in, draft_past_limits, draft_too_large}
use Rattle.newt_spec_whole.specs.Answer.{whole_answer, whole_answered, copies_after, put_copy, put_at, opened_of, reverted}
use Rattle.newt_laws_world.proofs.Frames.{set-frame, normal-frame}
use Rattle.newt_laws_whole.specs.Since.{IsDone}
use Rattle.newt_laws_whole.specs.Runs.{CanBeEntry, DraftsFit, AllFormed}
use Rattle.newt_laws_whole.proofs.Places.{set-other}
use Rattle.newt_laws_whole.proofs.Drafts.{first-none}

-- ---- entries

not-past : (n most : ℕ) → nat_le n most ≡ true → nat_lt most n ≡ false
not-past n most h = grind arith

entry-can : (e : Entry) → valid_entry e ≡ true → CanBeEntry e.graph
entry-can e ok =
    let outer = and_parts (is_frame (object e.graph.nodes e.graph.root) && within_limits e.graph) (nat_le (skeleton_length e.graph) 64_000) ok in
    let inner = and_parts (is_frame (object e.graph.nodes e.graph.root)) (within_limits e.graph) outer.0 in
    record { frame = inner.0; within = inner.1; small = not-past (skeleton_length e.graph) 64_000 outer.1 }

-- the entry of this id in the soup of this name
found-can : (s : Store) (name : List ℕ) (p : Soup) (uid : ℕ) (e : Entry) → well_formed s ≡ true → soup_named name s ≡ Some p → entry_of uid p ≡ Some e → CanBeEntry e.graph
found-can s name p uid e ok named found =
    entry-can e (found-good valid_entry (λ (v : Entry). v.uid == uid) p.entries e
    (is-soup p (found-good valid_soup (λ (v : Soup). equal_text v.name name) s.soups p (is-store s ok).soups_fit named)).entries_fit found)

pub entry-in-can : (w : World) (u : ℕ) (name : List ℕ) (uid : ℕ) (e : Entry) → AllFormed w → entry_in w u name uid ≡ Some e → CanBeEntry e.graph
entry-in-can w u name uid e formed h = go (mounted_store w u) refl h
  where
    in-soup : (s : Store) → mounted_store w u ≡ Some s → (o : Option Soup) → soup_named name s ≡ o → option_and_then (entry_of uid) o ≡ Some e → CanBeEntry e.graph
    in-soup s on None f k = absurd (none-some e k)
    in-soup s on (Some p) f k = found-can s name p uid e (formed u s on) f k

    go : (o : Option Store) → mounted_store w u ≡ o → option_and_then (entry_of uid) (option_and_then (soup_named name) o) ≡ Some e → CanBeEntry e.graph
    go None on k = absurd (none-some e k)
    go (Some s) on k = in-soup s on (soup_named name s) refl k

pub living-can : (h : Whole) (k : Copy) (s : Spot) → AllFormed h.world → living h k ≡ Some s → CanBeEntry s.entry.graph
living-can h k s formed is =
    let n : IsNamed h.world (alias_of_copy k) s = named-by h.world (alias_of_copy k) s is in
    let ok : well_formed n.on ≡ true = formed s.unit n.on n.mounted_there in
    found-can n.on s.soup.name s.soup s.entry.uid s.entry ok (there-named n.on s.soup ok n.is_soup) (there-entry s.soup s.entry (soup-good n.on s.soup ok n.is_soup) n.is_entry)

-- ---- places

set-is : {X : Type 0} (m : ℕ) (y k : X) (xs : List (Option X)) → flat (slice_get (slice_set xs m (Some y)) m) ≡ Some k → y ≡ k
set-is m y k [] h = absurd (none-some k h)
set-is zero y k (x ∷ xs) h = some-same y k h
set-is (suc m) y k (x ∷ xs) h = set-is m y k xs h

set-gone : {X : Type 0} (m : ℕ) (k : X) (xs : List (Option X)) → flat (slice_get (slice_set xs m None) m) ≡ Some k → ⊥
set-gone m k [] h = none-some k h
set-gone zero k (x ∷ xs) h = none-some k h
set-gone (suc m) k (x ∷ xs) h = set-gone m k xs h

-- what holds of all and of what is new holds of all
module _ (P : Copy → Type 0) (ks : List (Option Copy)) (all : (n : ℕ) (k : Copy) → flat (slice_get ks n) ≡ Some k → P k) where
  pub put-all : (o : Option ℕ) (new : Copy) → P new → (n : ℕ) (k : Copy) → flat (slice_get (put_at o new ks) n) ≡ Some k → P k
  put-all None new p n k h = all n k h
  put-all (Some m) new p n k h = go (same-or-not n m)
    where
      go : (n ≡ m) ⊎ (n ≡ m → ⊥) → P k
      go (inl e) = subst P (set-is m new k ks (subst (λ (i : ℕ). flat (slice_get (slice_set ks m (Some new)) i) ≡ Some k) e h)) p
      go (inr e) = all n k (sym (set-other m n (Some new) ks e) ∙ h)

  pub gone-all : (m n : ℕ) (k : Copy) → flat (slice_get (slice_set ks m None) n) ≡ Some k → P k
  gone-all m n k h = go (same-or-not n m)
    where
      go : (n ≡ m) ⊎ (n ≡ m → ⊥) → P k
      go (inl e) = absurd (set-gone m k ks (subst (λ (i : ℕ). flat (slice_get (slice_set ks m None) i) ≡ Some k) e h))
      go (inr e) = all n k (sym (set-other m n None ks e) ∙ h)

  pub change-all : (m : ℕ) (f : Copy → Copy) → ((k : Copy) → flat (slice_get ks m) ≡ Some k → P (f k)) → (n : ℕ) (k : Copy) → flat (slice_get (change_at m f ks) n) ≡ Some k → P k
  change-all m f each n k h = go (same-or-not n m)
    where
      go : (n ≡ m) ⊎ (n ≡ m → ⊥) → P k
      go (inl e) =
          let r = mapped f (flat (slice_get ks m)) k (sym (at-same m f ks) ∙ subst (λ (i : ℕ). flat (slice_get (change_at m f ks) i) ≡ Some k) e h) in
          subst P r.2 (each r.0 r.1)
      go (inr e) = all n k (sym (at-other m n f ks e) ∙ h)

-- ---- an edit

pub edit-can : (g value : RawGraph) (path : Path) → CanBeEntry g → is_none (put g path value) ≡ false → on_some (put g path value) (λ r. not (is_within (normal_form r))) ≡ false
    → nat_lt 64_000 (skeleton_length (graph_after_set path value g)) ≡ false → CanBeEntry (graph_after_set path value g)
edit-can g value path can some limit small = go (put g path value) refl some limit
  where
    made : (raw : RawGraph) → put g path value ≡ Some raw → (o : Option RawGraph) → normal_form raw ≡ o → not (is_within o) ≡ false → CanBeEntry (graph_after_set path value g)
    made raw p None f w = cc
    made raw p (Some new) f w =
        let after : graph_after_set path value g ≡ new = ap (λ o. unwrap_or (option_and_then normal_form o) g) p ∙ ap (λ o. unwrap_or o g) f in
        record {
          frame = ap (λ (x : RawGraph). is_frame (object x.nodes x.root)) after ∙ normal-frame raw new (set-frame path value g raw can.frame p) f;
          within = ap within_limits after ∙ not-not (within_limits new) w;
          small = small;
        }
      where
        not-not : (b : Bool) → not b ≡ false → b ≡ true
        not-not true h = refl
        not-not false h = cc

    go : (o : Option RawGraph) → put g path value ≡ o → is_none o ≡ false → on_some o (λ r. not (is_within (normal_form r))) ≡ false → CanBeEntry (graph_after_set path value g)
    go None p none l = cc
    go (Some raw) p none l = made raw p (normal_form raw) refl l

-- the tests of an edit that is done
record Passed (path : Path) (value : RawGraph) (k : Copy) : Type 0 where
  some : is_none (put k.draft path value) ≡ false
  limit : on_some (put k.draft path value) (λ r. not (is_within (normal_form r))) ≡ false
  small : nat_lt 64_000 (skeleton_length (graph_after_set path value k.draft)) ≡ false

edit-passed : (h : Whole) (m : ℕ) (path : Path) (g : RawGraph) (k : Copy) → IsDone h (command.Edit m path g) → copy h m ≡ Some k → Passed path g k
unfolding whole_checks
edit-passed h m path g k done here =
    let rest = first-none (no_copy h m).0 (no_copy h m).1 (no_path_in h m path g ∷ draft_past_limits h m path g ∷ draft_too_large h m path g ∷ []) done in
    let some = first-none (no_path_in h m path g).0 (no_path_in h m path g).1 (draft_past_limits h m path g ∷ draft_too_large h m path g ∷ []) rest.1 in
    let limit = first-none (draft_past_limits h m path g).0 (draft_past_limits h m path g).1 (draft_too_large h m path g ∷ []) some.1 in
    let small = first-none (draft_too_large h m path g).0 (draft_too_large h m path g).1 [] limit.1 in
    record {
      some = sym (ap (λ o. on_some o (λ (k : Copy). is_none (put k.draft path g))) here) ∙ some.0;
      limit = sym (ap (λ o. on_some o (λ (k : Copy). on_some (put k.draft path g) (λ r. not (is_within (normal_form r))))) here) ∙ limit.0;
      small = sym (ap (λ o. on_some o (λ (k : Copy). nat_lt 64_000 (skeleton_length (graph_after_set path g k.draft)))) here) ∙ small.0;
    }

edited-can : (h : Whole) (m : ℕ) (path : Path) (g : RawGraph) (k : Copy) → IsDone h (command.Edit m path g) → copy h m ≡ Some k → CanBeEntry k.draft → CanBeEntry (graph_after_set path g k.draft)
edited-can h m path g k done here can = let p = edit-passed h m path g k done here in edit-can k.draft g path can p.some p.limit p.small

-- the value is put, and the draft is a normal form
pub edit-put : (h : Whole) (m : ℕ) (path : Path) (g : RawGraph) (k : Copy) → IsDone h (command.Edit m path g) → copy h m ≡ Some k
    → (raw : RawGraph) × (draft_with path g k ≡ Some raw) × (normal_form raw ≡ Some (drafted path g k).draft)
edit-put h m path g k done here = let p = edit-passed h m path g k done here in go (put k.draft path g) refl p.some p.limit
  where
    made : (raw : RawGraph) → put k.draft path g ≡ Some raw → (o : Option RawGraph) → normal_form raw ≡ o → not (is_within o) ≡ false
        → (x : RawGraph) × (draft_with path g k ≡ Some x) × (normal_form x ≡ Some (drafted path g k).draft)
    made raw p None f w = cc
    made raw p (Some new) f w =
        let after : graph_after_set path g k.draft ≡ new = ap (λ o. unwrap_or (option_and_then normal_form o) k.draft) p ∙ ap (λ o. unwrap_or o k.draft) f in
        (raw, p, f ∙ ap (λ (x : RawGraph). Some x) (sym after))

    go : (o : Option RawGraph) → put k.draft path g ≡ o → is_none o ≡ false → on_some o (λ r. not (is_within (normal_form r))) ≡ false
        → (x : RawGraph) × (draft_with path g k ≡ Some x) × (normal_form x ≡ Some (drafted path g k).draft)
    go None p none l = cc
    go (Some raw) p none l = made raw p (normal_form raw) refl l

-- ---- one command

opened-can : (h : Whole) (t : Option Store) (p : Option Soup) (e : Option Entry) → DraftsFit h.copies → ((x : Entry) → e ≡ Some x → CanBeEntry x.graph)
    → (n : ℕ) (k : Copy) → flat (slice_get (put_copy (free_copy h) (opened_of t p e) h.copies) n) ≡ Some k → CanBeEntry k.draft
opened-can h None p e fits can n k i = fits n k i
opened-can h (Some t) None e fits can n k i = fits n k i
opened-can h (Some t) (Some p) None fits can n k i = fits n k i
opened-can h (Some t) (Some p) (Some e) fits can n k i =
    put-all (λ k. CanBeEntry k.draft) h.copies fits (free_copy h) (opened t.sig p.sig e.uid e.time e.graph) (can e refl) n k i

reverted-can : (h : Whole) (k : Copy) → AllFormed h.world → CanBeEntry k.draft → CanBeEntry (reverted h k).draft
reverted-can h k formed can = go (living h k) refl
  where
    to : Option Spot → Copy
    to o = elim o [ None ↦ k | Some s ↦ rebased s.entry.time s.entry.graph k ]

    go : (o : Option Spot) → living h k ≡ o → CanBeEntry (to o).draft
    go None e = can
    go (Some s) e = living-can h k s formed e

row-fits : (h : Whole) (c : Command) → AllFormed h.world → DraftsFit h.copies → IsDone h c → (n : ℕ) (k : Copy) → flat (slice_get (copies_after h c) n) ≡ Some k → CanBeEntry k.draft
unfolding copies_after
row-fits h (command.Open u s uid) formed fits done =
    opened-can h (mounted_store h.world u) (soup_in h.world u s) (entry_in h.world u s uid) fits (λ e. entry-in-can h.world u s uid e formed)
row-fits h (command.Edit m path g) formed fits done =
    change-all (λ k. CanBeEntry k.draft) h.copies fits m (λ k. edited (graph_after_set path g k.draft) k) (λ k here. edited-can h m path g k done here (fits m k here))
row-fits h (command.Save m) formed fits done = change-all (λ k. CanBeEntry k.draft) h.copies fits m (λ k. rebased h.world.minute k.draft k) (λ k here. fits m k here)
row-fits h (command.Revert m) formed fits done = change-all (λ k. CanBeEntry k.draft) h.copies fits m (reverted h) (λ k here. reverted-can h k formed (fits m k here))
row-fits h (command.Discard m) formed fits done = gone-all (λ k. CanBeEntry k.draft) h.copies fits m
row-fits h _ formed fits done = fits

pub drafts-fit : (h : Whole) (c : Command) → AllFormed h.world → DraftsFit h.copies → DraftsFit (whole_answer h c).0.copies
unfolding whole_answer
drafts-fit h c formed fits = go (first_of (whole_checks h c)) refl
  where
    go : (o : Option Refusal) → first_of (whole_checks h c) ≡ o → DraftsFit (whole_answered h c o).0.copies
    go (Some r) e = fits
    go None e = row-fits h c formed fits e
