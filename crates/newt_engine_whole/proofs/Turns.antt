-- Two commands one after the other, of which the first leaves the world.
use Rattle.std.proofs.Common.{◌≡◌, ◌⊎◌, inl, inr, ◌∙◌, ℕ, List, [], ◌∷◌, ◌++◌, false, Option}
use Rattle.newt_host.specs.Moments.{Moment, Always}
use Rattle.newt_host.proofs.Moments.{Always-append, Always-last, Always-map}
use Rattle.newt_spec_graph.specs.Lists.{Among}
use Rattle.newt_spec_graph.proofs.Lists.{among-left}
use Rattle.newt_spec_store.specs.Store.{Store}
use Rattle.newt_spec_world.specs.World.{World, stores_on}
use Rattle.newt_spec_world.specs.Step.{formats}
use Rattle.newt_spec_world.specs.declared.command.Command.{Command}
use Rattle.newt_laws_steps.specs.Answering.{Answering, ReadsOneOf}

-- a store is one of two lists that are one, so it is one of that list
one-of-both : (reads : List ℕ → Option Store) (ss : List Store) (left : List ℕ) → ReadsOneOf reads (ss ++ ss) left → ReadsOneOf reads ss left
one-of-both reads ss left r = (r.0, either ss r.0 r.1, r.2)
  where
    both : (xs ys : List Store) (s : Store) → Among (xs ++ ys) s → Among xs s ⊎ Among ys s
    both [] ys s h = inr h
    both (x ∷ xs) ys s (inl e) = inl (inl e)
    both (x ∷ xs) ys s (inr h) = elim (both xs ys s h) [ inl a ↦ inl (inr a) | inr b ↦ inr b ]

    either : (xs : List Store) (s : Store) → Among (xs ++ xs) s → Among xs s
    either xs s h = elim (both xs xs s h) [ inl a ↦ a | inr b ↦ b ]

module _ (reads : List ℕ → Option Store) (w : World) (first second : Command) (v : World) (old mid now : Moment)
    (reading : (u : ℕ) → formats w first u ≡ false) where
  -- a moment of the first is one of both
  pub early : (m : Moment) → Answering reads w first w old m → Answering reads w second v old m
  early m a = record {
    unread = a.unread;
    quiet = a.quiet;
    stores = λ u s left among may. let r = one-of-both reads (stores_on w u) left (a.stores u s left among may) in
        (r.0, among-left (stores_on w u) (stores_on v u) r.0 r.1, r.2);
    images = λ u blank stays. a.images u blank (inl (reading u));
    others = λ u left blank stays may. a.others u left blank (inl (reading u)) may;
  }

  -- and so is one of the second
  late : Answering reads w first w old mid → (m : Moment) → Answering reads w second v mid m → Answering reads w second v old m
  late a m b = record {
    unread = b.unread ∙ a.unread;
    quiet = b.quiet ∙ a.quiet;
    stores = b.stores;
    images = λ u blank stays. b.images u blank stays ∙ a.images u blank (inl (reading u));
    others = λ u left blank stays may. a.others u left blank (inl (reading u)) (b.others u left blank stays may);
  }

  pub in-turn : Always (Answering reads w first w old) old mid → Always (Answering reads w second v mid) mid now → Always (Answering reads w second v old) old now
  in-turn a b = Always-append (Always-map early a) (Always-map (late (Always-last a)) b)

-- a moment of a command that formats nothing is one of any other
pub as-other : (reads : List ℕ → Option Store) (w v : World) (c d : Command) (old now : Moment) → ((u : ℕ) → formats w c u ≡ false) → Always (Answering reads w c v old) old now → Always (Answering reads w d v old) old now
as-other reads w v c d old now none a = Always-map (λ m b. record {
  unread = b.unread;
  quiet = b.quiet;
  stores = b.stores;
  images = λ u blank stays. b.images u blank (inl (none u));
  others = λ u left blank stays may. b.others u left blank (inl (none u)) may;
}) a
