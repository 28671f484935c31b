-- An entry was read, and a copy of it is put, or there was no memory for it.
use Rattle.std.proofs.Common.{◌≡◌, inl, inr, refl, subst, sym, ℕ, List, [], Bool, IsTrue, Option, Some}
use Rattle.std.specs.declared.alloc.AllocError.{AllocError}
use Rattle.std.specs.Prelude.{IfOk, Result, Ok, Err}
use Rattle.newt_graph.specs.Graph.{RawGraph}
use Rattle.newt_host.specs.Outside.{Outside}
use Rattle.newt_reply.specs.Said.{said}
use Rattle.newt_reply.specs.declared.reply.Reply.{Reply}
use Rattle.newt_reply.specs.declared.reply.Reply.TheVariants as reply
use Rattle.newt_spec_store.specs.Store.{Soup, Store}
use Rattle.newt_spec_whole.specs.Whole as plain
use Rattle.newt_spec_world.specs.Reply as replies
use Rattle.newt_spec_world.specs.World.{World, mounted_store, soup_in}
use Rattle.newt_spec_world.specs.declared.command.Command.TheVariants as command
use Rattle.newt_work.specs.Work.{opened}
use Rattle.newt_laws_world.specs.Worlds.{is_plain}
use Rattle.newt_laws_whole.specs.Runs.{AllFormed}
use Rattle.newt_laws_whole.proofs.Reading.{GetsOr}
use Rattle.newt_engine.specs.Calls.{Applied as Inner}
use Rattle.newt_engine.specs.declared.world.World.{World as Engine}
use Rattle.newt_engine_whole.specs.Calls.{Applied}
use Rattle.newt_engine_whole.specs.Copies.{PutsCopy}
use Rattle.newt_engine_whole.specs.Standing.{Means, Standing, known_whole}
use Rattle.newt_engine_whole.specs.declared.whole.Whole.{Whole}
use Rattle.newt_engine_whole.proofs.Opened.{open-put, open-turn}
use Rattle.newt_engine_whole.proofs.Unanswered.{read-memory, still-read}

-- where it was shown the world stays
shown-stays : (w v : World) (u uid : ℕ) (s : List ℕ) (time : ℕ) (graph : RawGraph) → GetsOr w u s uid v (replies.Reply.timed time graph) → v ≡ w
shown-stays w v u uid s time graph (inl (r, first, same, says)) = same
shown-stays w v u uid s time graph (inr (inl (e, first, entry, same, says))) = same
shown-stays w v u uid s time graph (inr (inr (x, next, says))) = cc

pub timed-stays : (w v : World) (u uid : ℕ) (s : List ℕ) (time : ℕ) (graph : RawGraph) (it : Reply) → ◌≡◌ {A = Result Reply AllocError} (Ok (reply.Timed time graph)) (Ok it) → GetsOr w u s uid v (said it) → v ≡ w
timed-stays w v u uid s time graph it e g = shown-stays w v u uid s time graph (subst (λ (r : Reply). GetsOr w u s uid v (said r)) (sym (ok-same (reply.Timed time graph) it e)) g)
  where
    ok-same : (x y : Reply) → ◌≡◌ {A = Result Reply AllocError} (Ok x) (Ok y) → x ≡ y
    ok-same x y k = cc

module _ {C : Type 0} {reads : List ℕ → Option Store} {place : C → ℕ} {stands : Bool → C → Outside → Type 0} {told : Bool} {old : Whole C} {mid : Engine C} {o p : Outside} (u uid : ℕ) (s : List ℕ)
    (begun : Standing reads place stands told old o) {time store soup : ℕ} {graph : RawGraph} (a : Inner reads place stands told (command.Get u s uid) old.world mid o p (Ok (reply.Timed time graph))) where
  pub opening : (IsTrue told → (h : plain.Whole) → Means reads old o h → (t : Store) × (mounted_store h.world u ≡ Some t) × (t.sig ≡ store) × (q : Soup) × (soup_in h.world u s ≡ Some q) × (q.sig ≡ soup))
      → (IsTrue told → (h : plain.Whole) × Means reads old o h × AllFormed h.world) → {new : Whole C} → new.world ≡ mid → new.watches ≡ old.watches
      → (r : Result Reply AllocError) → IfOk r (λ it. PutsCopy old.works new.works (opened store soup uid time graph) (said it)) → Applied reads place stands told (command.Open u s uid) old new o p r
  unfolding is_plain
  opening known has {new} world watches (Ok it) put = open-put u uid s begun a known new world watches it put has
  opening known has {new} world watches (Err error) put =
      read-memory refl begun u uid s a error (λ w. refl) refl refl refl (λ t. ([], open-turn (known_whole reads old o) u uid s))
      (still-read begun u uid s a (λ t h m v it e g. timed-stays h.world v u uid s time graph it e g)) (λ x. a.finished.failed x refl)
