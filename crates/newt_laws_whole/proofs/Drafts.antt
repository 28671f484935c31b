-- A working copy after a command.
use Rattle.std.proofs.Common.{◌≡◌, refl, ap, sym, ◌∙◌, subst, ℕ, List, [], ◌∷◌, ◌++◌, true, false, Bool, cond, not, Option, Some, None, option_map, option_and_then}
use Rattle.std.specs.Prelude.{slice_get, is_none, ◌==◌}
use Rattle.std.specs.List.{position}
use Rattle.std.proofs.lemmas.Bool.Decides.{Decides-eqb, Decides-and}
use Rattle.newt_base.specs.Refusals.{Checks, first_of}
use Rattle.newt_base.specs.declared.Refusal.{Refusal}
use Rattle.newt_graph.specs.Graph.{RawGraph}
use Rattle.newt_work.specs.Work.{Copy, opened, edited, rebased, is_based}
use Rattle.newt_work.proofs.Same.{graph_decides}
use Rattle.newt_spec_store.specs.Store.{Entry, Soup, Store}
use Rattle.newt_spec_world.specs.World.{flat, change_at, mounted_store, soup_in, entry_in}
use Rattle.newt_spec_world.specs.Changed.{graph_after_set}
use Rattle.newt_spec_world.specs.Refused.{on_some}
use Rattle.newt_spec_world.specs.Alias.{Spot}
use Rattle.newt_spec_world.specs.declared.command.Command.{Command}
use Rattle.newt_spec_world.specs.declared.command.Command.TheVariants as command
use Rattle.newt_laws_world.proofs.Units.{at-same, at-other}
use Rattle.newt_spec_whole.specs.Whole.{Whole, copy, free_copy, living, asks, change_of}
use Rattle.newt_spec_whole.specs.Refused.{whole_checks, no_copy, entry_gone, entry_changed, no_room}
use Rattle.newt_spec_whole.specs.Answer.{whole_answer, whole_answered, copies_after, put_copy, put_at, opened_of, reverted, world_after}
use Rattle.newt_laws_whole.specs.Since.{Edit, put_all, IsDone, edit_by, if_done, ends_edits, Saves}
use Rattle.newt_laws_whole.proofs.Places.{set-other, set-free, free-other}

-- ---- one command

-- numbers that differ
pub apart : (m n : ℕ) → (m == n) ≡ false → (n ≡ m → ⊥)
apart m n h e = let t : (m == n) ≡ true = (Decides-eqb m n).1 (sym e) in cc

-- something new is put at another place
opened-beside : (n : ℕ) (k : Copy) (new : Option Copy) (ks : List (Option Copy)) → flat (slice_get ks n) ≡ Some k
    → flat (slice_get (put_copy (position is_none ks) new ks) n) ≡ Some k
opened-beside n k None ks here = here
opened-beside n k (Some new) ks here = go (position is_none ks) refl
  where
    go : (o : Option ℕ) → position is_none ks ≡ o → flat (slice_get (put_at o new ks) n) ≡ Some k
    go None e = here
    go (Some m) e = set-other m n (Some new) ks (free-other m n k ks e here) ∙ here

-- an edit of this copy, or of another
edited-or-not : (n m : ℕ) (k : Copy) (e : Edit) (ks : List (Option Copy)) → flat (slice_get ks n) ≡ Some k
    → flat (slice_get (change_at m (λ k. edited (graph_after_set e.0 e.1 k.draft) k) ks) n) ≡ Some (edited (put_all k.draft (cond (m == n) (e ∷ []) [])) k)
edited-or-not n m k e ks here = go (m == n) refl
  where
    f : Copy → Copy
    f k = edited (graph_after_set e.0 e.1 k.draft) k

    go : (b : Bool) → (m == n) ≡ b → flat (slice_get (change_at m (λ k. edited (graph_after_set e.0 e.1 k.draft) k) ks) n) ≡ Some (edited (put_all k.draft (cond b (e ∷ []) [])) k)
    go true t = subst (λ (i : ℕ). flat (slice_get (change_at i (λ k. edited (graph_after_set e.0 e.1 k.draft) k) ks) n) ≡ Some (edited (graph_after_set e.0 e.1 k.draft) k)) (sym ((Decides-eqb m n).0 t))
        (at-same n (λ k. edited (graph_after_set e.0 e.1 k.draft) k) ks ∙ ap (option_map (λ k. edited (graph_after_set e.0 e.1 k.draft) k)) here)
    go false t = at-other m n (λ k. edited (graph_after_set e.0 e.1 k.draft) k) ks (apart m n t) ∙ here

-- the copies after a command that does not end the edits of this one
copies-kept : (h : Whole) (c : Command) (n : ℕ) (k : Copy) → copy h n ≡ Some k → ends_edits n c ≡ false
    → flat (slice_get (copies_after h c) n) ≡ Some (edited (put_all k.draft (edit_by n c)) k)
unfolding copies_after
copies-kept h (command.Open u s uid) n k here on = opened-beside n k (opened_of (mounted_store h.world u) (soup_in h.world u s) (entry_in h.world u s uid)) h.copies here
copies-kept h (command.Edit m path g) n k here on = edited-or-not n m k (path, g) h.copies here
copies-kept h (command.Save m) n k here on = at-other m n (λ k. rebased h.world.minute k.draft k) h.copies (apart m n on) ∙ here
copies-kept h (command.Revert m) n k here on = at-other m n (reverted h) h.copies (apart m n on) ∙ here
copies-kept h (command.Discard m) n k here on = set-other m n None h.copies (apart m n on) ∙ here
copies-kept h _ n k here on = here

-- refused or not
pub step-kept : (h : Whole) (c : Command) (n : ℕ) (k : Copy) (o : Option Refusal) → copy h n ≡ Some k → (o ≡ None → ends_edits n c ≡ false)
    → copy (whole_answered h c o).0 n ≡ Some (edited (put_all k.draft (if_done o (edit_by n c))) k)
step-kept h c n k (Some r) here on = here
step-kept h c n k None here on = copies-kept h c n k here (on refl)

-- ---- many edits

pub put-more : (g : RawGraph) (es fs : List Edit) → put_all g (es ++ fs) ≡ put_all (put_all g es) fs
put-more g [] fs = refl
put-more g (e ∷ es) fs = put-more (graph_after_set e.0 e.1 g) es fs

-- ---- a save

-- the first test of a row that is done does not hold, and the others are done
pub first-none : (r : Refusal) (b : Bool) (rest : Checks) → first_of ((r, b) ∷ rest) ≡ None → (b ≡ false) × (first_of rest ≡ None)
first-none r true rest h = cc
first-none r false rest h = (refl, h)

not-not : (b : Bool) → not b ≡ false → b ≡ true
not-not true h = refl
not-not false h = cc

pub saves : (h : Whole) (n : ℕ) (k : Copy) → IsDone h (command.Save n) → copy h n ≡ Some k → Saves h (whole_answer h (command.Save n)).0 k k.draft
unfolding whole_checks whole_answer asks
saves h n k done here = go (living h k) refl
  where
    rest : (is_none (copy h n) ≡ false) × (first_of (entry_gone h n ∷ entry_changed h n ∷ no_room h n ∷ []) ≡ None)
    rest = first-none (no_copy h n).0 (is_none (copy h n)) (entry_gone h n ∷ entry_changed h n ∷ no_room h n ∷ []) done

    more : ((entry_gone h n).1 ≡ false) × (first_of (entry_changed h n ∷ no_room h n ∷ []) ≡ None)
    more = first-none (entry_gone h n).0 (entry_gone h n).1 (entry_changed h n ∷ no_room h n ∷ []) rest.1

    last : ((entry_changed h n).1 ≡ false) × (first_of (no_room h n ∷ []) ≡ None)
    last = first-none (entry_changed h n).0 (entry_changed h n).1 (no_room h n ∷ []) more.1

    gone : is_none (living h k) ≡ false
    gone = sym (ap (λ o. on_some o (λ k. is_none (living h k))) here) ∙ more.0

    differs : on_some (living h k) (λ s. not (is_based s.entry.time s.entry.graph k)) ≡ false
    differs = sym (ap (λ o. on_some o (λ k. on_some (living h k) (λ s. not (is_based s.entry.time s.entry.graph k)))) here) ∙ last.0

    go : (o : Option Spot) → living h k ≡ o → Saves h (whole_answer h (command.Save n)).0 k k.draft
    go None e = let x : true ≡ false = sym (ap is_none e) ∙ gone in cc
    go (Some s) e =
        let d : not (is_based s.entry.time s.entry.graph k) ≡ false = sym (ap (λ o. on_some o (λ s. not (is_based s.entry.time s.entry.graph k))) e) ∙ differs in
        let parts : (k.time ≡ s.entry.time) × (k.base ≡ s.entry.graph) = (Decides-and _ _ (Decides-eqb k.time s.entry.time) (graph_decides k.base s.entry.graph)).0 (not-not _ d) in
        record {
          spot = s;
          lives = e;
          same_time = sym parts.0;
          same_graph = sym parts.1;
          after = ap (λ o. (whole_answered h (command.Save n) o).0.world) done
              ∙ ap (λ o. world_after h.world (option_and_then (λ k. option_map (change_of k) (living h k)) o)) here
              ∙ ap (λ o. world_after h.world (option_map (change_of k) o)) e;
        }

-- ---- a copy begins

pub begun-open : (h : Whole) (u : ℕ) (name : List ℕ) (uid n : ℕ) (t : Store) (p : Soup) (e : Entry) → IsDone h (command.Open u name uid) → free_copy h ≡ Some n
    → mounted_store h.world u ≡ Some t → soup_in h.world u name ≡ Some p → entry_in h.world u name uid ≡ Some e
    → copy (whole_answer h (command.Open u name uid)).0 n ≡ Some (opened t.sig p.sig e.uid e.time e.graph)
unfolding whole_answer copies_after
begun-open h u name uid n t p e done free st sp se =
    ap (λ o. copy (whole_answered h (command.Open u name uid) o).0 n) done
    ∙ ap (λ o. flat (slice_get (put_copy o (opened_of (mounted_store h.world u) (soup_in h.world u name) (entry_in h.world u name uid)) h.copies) n)) free
    ∙ ap (λ o. flat (slice_get (put_copy (Some n) (opened_of o (soup_in h.world u name) (entry_in h.world u name uid)) h.copies) n)) st
    ∙ ap (λ o. flat (slice_get (put_copy (Some n) (opened_of (Some t) o (entry_in h.world u name uid)) h.copies) n)) sp
    ∙ ap (λ o. flat (slice_get (put_copy (Some n) (opened_of (Some t) (Some p) o) h.copies) n)) se
    ∙ set-free n (opened t.sig p.sig e.uid e.time e.graph) h.copies free

pub begun-save : (h : Whole) (n : ℕ) (k : Copy) → IsDone h (command.Save n) → copy h n ≡ Some k → copy (whole_answer h (command.Save n)).0 n ≡ Some (rebased h.world.minute k.draft k)
unfolding whole_answer copies_after
begun-save h n k done here =
    ap (λ o. copy (whole_answered h (command.Save n) o).0 n) done
    ∙ at-same n (λ k. rebased h.world.minute k.draft k) h.copies
    ∙ ap (option_map (λ k. rebased h.world.minute k.draft k)) here

pub begun-revert : (h : Whole) (n : ℕ) (k : Copy) (s : Spot) → IsDone h (command.Revert n) → copy h n ≡ Some k → living h k ≡ Some s
    → copy (whole_answer h (command.Revert n)).0 n ≡ Some (rebased s.entry.time s.entry.graph k)
unfolding whole_answer copies_after
begun-revert h n k s done here lives =
    ap (λ o. copy (whole_answered h (command.Revert n) o).0 n) done
    ∙ at-same n (reverted h) h.copies
    ∙ ap (option_map (reverted h)) here
    ∙ ap (λ (o : Option Spot). Some (reverted_to k o)) lives
  where
    reverted_to : Copy → Option Spot → Copy
    reverted_to k o = elim o [ None ↦ k | Some s ↦ rebased s.entry.time s.entry.graph k ]
