-- Where the entry is as the base it is changed, and the copy begins anew from its draft.
use Rattle.std.proofs.Common.{◌≡◌, ap, refl, subst, sym, ◌∙◌, ℕ, true, IsTrue, List, Option, Some, option_map, slice_set}
use Rattle.std.specs.Prelude.{Err, Result, is_some}
use Rattle.std.specs.declared.alloc.AllocError.{AllocError}
use Rattle.std.proofs.lemmas.Result.{err_from_is_err_and}
use Rattle.newt_graph.specs.Graph.{IsGraph, RawGraph}
use Rattle.newt_notify.specs.Watch.{Watching}
use Rattle.newt_reply.specs.declared.reply.Reply.{Reply}
use Rattle.newt_spec_graph.specs.Limits.{within_limits}
use Rattle.newt_spec_graph.proofs.Lists.{both-ways}
use Rattle.newt_spec_whole.specs.Whole as plain
use Rattle.newt_spec_world.specs.declared.command.Command.TheVariants as command
use Rattle.newt_work.specs.Work.{Copy, copy_at, is_based, rebased}
use Rattle.newt_laws_images.proofs.Within.{graph-within}
use Rattle.newt_laws_world.specs.Worlds.{has_form, is_plain}
use Rattle.newt_engine_units.proofs.Known.{Laws}
use Rattle.newt_engine.specs.Laws.{laws_of}
use Rattle.newt_engine_whole.specs.Calls.{AppliedRest}
use Rattle.newt_engine_whole.specs.Copies.{IsRead}
use Rattle.newt_engine_whole.specs.Standing.{Means, Standing, known_whole}
use Rattle.newt_engine_whole.specs.declared.saves.Place.{Place}
use Rattle.newt_engine_whole.specs.declared.whole.Whole.{Whole}
use Rattle.newt_engine_whole.proofs.Found.{known-means, whole-told}
use Rattle.newt_engine_whole.proofs.Meant.{all-formed}
use Rattle.newt_engine_whole.proofs.Saving.{IsBase, base-of, change-memory, rest-changed, save-handed, save-over, undone}
use Rattle.newt_engine_whole.proofs.Shown.{applied-as, applied-of}
use Rattle.newt_engine_whole.proofs.Unanswered.{rest-memory}
use Rattle.newt_engine_whole.proofs.whole.Whole.save_over.Given.{Over}
use Rattle.newt_engine_whole.proofs.whole.Whole.save_over.Goals as goal

abbrev laws : (g : Over) → Laws g.C.Card.reads g.C.Card.place g.C.Card.soups g.C.Card.stands
laws g = laws_of g.met.C.Card.formed g.met.C.Card.plain g.met.C.Card.durable g.met.C.Card.banks g.met.C.Card.kept

-- before the world is asked
ends : (g : Over) {it : Whole g.row.C.Denot} {host : _} {n : _} {Q : AllocError → Type 0} → Standing g.C.Card.reads g.C.Card.place g.C.Card.stands g.H.Host.told it (g.H.Host.outside host) → (r : Result Reply AllocError) → (e : AllocError) × (r ≡ Err e) × Q e
    → AppliedRest g.C.Card.reads g.C.Card.place g.C.Card.stands g.H.Host.told (command.Save n) it it (g.H.Host.outside host) (g.H.Host.outside host) r
unfolding is_plain
ends g {it} {host} {n} begun r memory =
    let o = g.H.Host.outside host in
    subst (λ (r : Result Reply AllocError). AppliedRest g.C.Card.reads g.C.Card.place g.C.Card.stands g.H.Host.told (command.Save n) it it o o r) (sym memory.1) (rest-memory refl begun memory.0 refl)

pub returns-in_default : goal.returns-in_default
returns-in_default g c = absurd (both-ways (ap is_some c.in_default.ensures ∙ c.requires.there))

pub returns-then-not-based : goal.returns-then-not-based
returns-then-not-based g c = rest-changed c.in-Some.work.now c.in-Some.ensures (sym c.based.ensures.value ∙ c.if-not-based.true) c.requires.stands c.requires.read

pub apply-requires : goal.apply-requires
unfolding has_form
apply-requires g c = record {
  stands = c.requires.stands.world;
  form = ap within_limits (c.in_ok-draft.ensures ∙ c.draft-2.ensures) ∙ graph-within c.in-Some.work.now.draft (subst IsGraph c.draft.ensures c.root-root.ensures.graph);
}

-- the copies are of the draft, and the entry is as the base
base : (g : Over) (it : Whole g.row.C.Denot) (host : g.row.H.Denot) (n time : ℕ) (graph : RawGraph) (at : Place) (begun : Standing g.C.Card.reads g.C.Card.place g.C.Card.stands g.H.Host.told it (g.H.Host.outside host)) (k : Copy) → Some k ≡ copy_at n it.works → is_based time graph k ≡ true → (draft : RawGraph) → draft ≡ k.draft
    → (IsTrue g.H.Host.told → (h : plain.Whole) → Means g.C.Card.reads it (g.H.Host.outside host) h → IsRead h n at time graph)
    → IsTrue g.H.Host.told → (h : plain.Whole) → Means g.C.Card.reads it (g.H.Host.outside host) h → IsBase h n at draft
base g it host n time graph at begun k there same draft is read t h m =
    let s = whole-told begun t in
    base-of (read t h m) k there same is m (all-formed (laws g) it.world.units it.world.desk (g.H.Host.outside host) s.world h.world m.world) (s.drafts refl)

-- the whole that is known
known : (g : Over) (it : Whole g.row.C.Denot) (host : _) → Standing g.C.Card.reads g.C.Card.place g.C.Card.stands g.H.Host.told it (g.H.Host.outside host)
    → IsTrue g.H.Host.told → (ws : List (Option Watching)) × Means g.C.Card.reads it (g.H.Host.outside host) (record (known_whole g.C.Card.reads it (g.H.Host.outside host)) { watches = ws })
known g it host begun t = let s = whole-told begun t in (s.watches.0, known-means (laws g) it (g.H.Host.outside host) s)

pub rebase_to_draft-requires : goal.rebase_to_draft-requires
rebase_to_draft-requires g c = c.requires.there

-- the copy that begins anew from its draft is the one that begins anew from what was given
begun-from : (works : List (Option Copy)) (n : ℕ) (k : Copy) (given : RawGraph) {time minute : ℕ} → Some k ≡ copy_at n works → given ≡ k.draft → time ≡ minute
    → slice_set works n (option_map (λ (j : Copy). rebased time j.draft j) (copy_at n works)) ≡ slice_set works n (option_map (rebased minute given) (copy_at n works))
begun-from works n k given {time} {minute} there same times =
    ap (λ (o : Option Copy). slice_set works n (option_map (λ (j : Copy). rebased time j.draft j) o)) (sym there)
    ∙ (λ i. slice_set works n (Some (rebased (times i) (sym same i) k)))
    ∙ ap (λ (o : Option Copy). slice_set works n (option_map (rebased minute given) o)) there

pub returns-in_default-reply : goal.returns-in_default-reply
returns-in_default-reply g c =
    let k = c.in-Some.work.now in
    let given = c.in_ok-draft.ensures ∙ c.draft-2.ensures in
    save-handed c.args.number c.args.place.now c.in_ok-draft.draft
    (base g c.args.self.now c.args.host.now c.args.number c.args.time c.args.graph.now c.args.place.now c.requires.stands k c.in-Some.ensures (sym c.based.ensures.value ∙ c.if-not-based.false) c.in_ok-draft.draft given c.requires.read)
    c.requires.stands (known g c.args.self.now c.args.host.now c.requires.stands) (undone _ c.in_default-reply.not-Done) (applied-of (ap (λ (s : List ℕ). command.Change c.args.place.now.unit s c.args.place.now.uid c.in_ok-draft.draft) c.in_ok-name.ensures) c.in_ok-reply.ensures)

pub returns-in-Done : goal.returns-in-Done
returns-in-Done g c =
    let k = c.in-Some.work.now in
    let n = c.args.number in
    let works = c.args.self.now.works in
    let given = c.in_ok-draft.ensures ∙ c.draft-2.ensures in
    let minute = c.minute.ensures ∙ ap (λ units. units.minute) c.units.ensures in
    save-over n c.args.place.now c.in_ok-draft.draft
    (base g c.args.self.now c.args.host.now n c.args.time c.args.graph.now c.args.place.now c.requires.stands k c.in-Some.ensures (sym c.based.ensures.value ∙ c.if-not-based.false) c.in_ok-draft.draft given c.requires.read)
    c.requires.stands (known g c.args.self.now c.args.host.now c.requires.stands) k c.in-Some.ensures given (applied-as c.in-Done.is (applied-of (ap (λ (s : List ℕ). command.Change c.args.place.now.unit s c.args.place.now.uid c.in_ok-draft.draft) c.in_ok-name.ensures) c.in_ok-reply.ensures)) refl refl
    (c.rebase_to_draft.ensures ∙ begun-from works n k c.in_ok-draft.draft c.in-Some.ensures given minute) c.tell_saved.ensures

-- ---- memory is refused

pub returns-in_err-draft : goal.returns-in_err-draft
returns-in_err-draft g c = ends g c.requires.stands c.from_residual.result (err_from_is_err_and c.from_residual.result c.from_residual.ensures.1)

pub returns-in_err-name : goal.returns-in_err-name
returns-in_err-name g c = ends g c.requires.stands c.from_residual-in_err-name.result (err_from_is_err_and c.from_residual-in_err-name.result c.from_residual-in_err-name.ensures.1)

pub returns-in_err-reply : goal.returns-in_err-reply
returns-in_err-reply g c =
    let memory = err_from_is_err_and c.from_residual-in_err-reply.result c.from_residual-in_err-reply.ensures.1 in
    let k = c.in-Some.work.now in
    let given = c.in_ok-draft.ensures ∙ c.draft-2.ensures in
    subst (λ (r : Result Reply AllocError). AppliedRest g.C.Card.reads g.C.Card.place g.C.Card.stands g.H.Host.told (command.Save c.args.number) c.args.self.now (record c.args.self.now { world = c.apply.new.self })
    (g.H.Host.outside c.args.host.now) (g.H.Host.outside c.apply.new.host) r) (sym memory.1)
    (change-memory c.args.number c.args.place.now c.in_ok-draft.draft
    (base g c.args.self.now c.args.host.now c.args.number c.args.time c.args.graph.now c.args.place.now c.requires.stands k c.in-Some.ensures (sym c.based.ensures.value ∙ c.if-not-based.false) c.in_ok-draft.draft given c.requires.read)
    c.requires.stands (known g c.args.self.now c.args.host.now c.requires.stands) memory.0 (applied-of (ap (λ (s : List ℕ). command.Change c.args.place.now.unit s c.args.place.now.uid c.in_ok-draft.draft) c.in_ok-name.ensures) c.in_err-reply.ensures))
