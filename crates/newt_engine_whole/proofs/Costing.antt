-- What commands cost that are asked one after another.
use Rattle.std.proofs.Common.{◌≡◌, arith, ℕ, ◌+◌, ◌*◌, ◌≤◌, List, ◌∷◌, length}
use Rattle.std.proofs.lemmas.List.Sums.{sum_by-cons}
use Rattle.newt_host.specs.Moments.{image}
use Rattle.newt_host.specs.Outside.{Outside}
use Rattle.newt_host.proofs.Outside.{Wears-append, Wears-widen}
use Rattle.newt_pagebook.specs.Book.{IsOpenFor}
use Rattle.newt_spec_world.specs.World.{World}
use Rattle.newt_spec_world.specs.declared.command.Command.{Command}
use Rattle.newt_laws_answers.specs.Bounds.{most_programmed}
use Rattle.newt_engine_card.specs.Bounds.{ProgramsAtMost}
use Rattle.newt_engine_units.proofs.Costs.{room-for-less}
use Rattle.newt_engine.specs.Bounds.{most_settled}
use Rattle.newt_engine_whole.specs.Bounds.{ProgramsInTurn, most_put, most_taken}

first-less : (all one rest : ℕ) → all ≡ one + rest → one ≤ all
first-less all one rest is = omega (arith, is)

rest-less : (all one rest : ℕ) → all ≡ one + rest → rest ≤ all
rest-less all one rest is = omega (arith, is)

first-sum : (new old all one rest : ℕ) → all ≡ one + rest → new ≤ old + one → new ≤ old + all
first-sum new old all one rest is low = omega (arith, is, low)

both-sum : (new mid old all one rest : ℕ) → all ≡ one + rest → mid ≤ old + one → new ≤ mid + rest → new ≤ old + all
both-sum new mid old all one rest is first last = omega (arith, is, first, last)

module _ (w : World) (d : Command) (rest : List Command) (u : ℕ) where
  put-is : most_put w (d ∷ rest) u ≡ most_programmed w d u + most_put w rest u
  put-is = sum_by-cons (λ c. most_programmed w c u) d rest

  taken-is : most_taken w (d ∷ rest) u ≡ most_settled w d u + most_taken w rest u
  taken-is = sum_by-cons (λ c. most_settled w c u) d rest

  one-of : 2 ≤ 2 * length (d ∷ rest)
  one-of = omega arith

  all-of : 2 + 2 * length rest ≤ 2 * length (d ∷ rest)
  all-of = omega arith

  pub first-room : {bytes : List ℕ} → IsOpenFor (most_put w (d ∷ rest) u) bytes → IsOpenFor (most_programmed w d u) bytes
  first-room = room-for-less (first-less (most_put w (d ∷ rest) u) (most_programmed w d u) (most_put w rest u) put-is)

  pub rest-room : {bytes : List ℕ} → IsOpenFor (most_put w (d ∷ rest) u) bytes → IsOpenFor (most_put w rest u) bytes
  rest-room = room-for-less (rest-less (most_put w (d ∷ rest) u) (most_programmed w d u) (most_put w rest u) put-is)

  -- the first was asked alone
  pub first-programs : {o p : Outside} → ProgramsAtMost (most_programmed w d u) u o p → ProgramsInTurn w (d ∷ rest) u o p
  first-programs {o} {p} b = record {
    programmed = λ room. first-sum (p.programmed u) (o.programmed u) (most_put w (d ∷ rest) u) (most_programmed w d u) (most_put w rest u) put-is (b.programmed (first-room room));
    wears = λ room. Wears-widen 0 2 0 (2 * length (d ∷ rest)) (omega arith) one-of (b.wears (first-room room));
  }

  pub first-fetches : (o p : Outside) → (IsOpenFor (most_programmed w d u) (image u o.now) → p.fetched u ≤ o.fetched u + most_settled w d u)
      → IsOpenFor (most_put w (d ∷ rest) u) (image u o.now) → p.fetched u ≤ o.fetched u + most_taken w (d ∷ rest) u
  first-fetches o p b room = first-sum (p.fetched u) (o.fetched u) (most_taken w (d ∷ rest) u) (most_settled w d u) (most_taken w rest u) taken-is (b (first-room room))

  -- the rest was asked after it
  module _ (o p q : Outside) (same : (n : ℕ) → IsOpenFor n (image u o.now) → IsOpenFor n (image u p.now)) where
    pub then-programs : ProgramsAtMost (most_programmed w d u) u o p → ProgramsInTurn w rest u p q → ProgramsInTurn w (d ∷ rest) u o q
    then-programs b c = record {
      programmed = λ room. both-sum (q.programmed u) (p.programmed u) (o.programmed u) (most_put w (d ∷ rest) u) (most_programmed w d u) (most_put w rest u) put-is
          (b.programmed (first-room room)) (c.programmed (same (most_put w rest u) (rest-room room)));
      wears = λ room. Wears-widen 0 (2 + 2 * length rest) 0 (2 * length (d ∷ rest)) (omega arith) all-of
          (Wears-append 0 2 0 (2 * length rest) (b.wears (first-room room)) (c.wears (same (most_put w rest u) (rest-room room))));
    }

    pub then-fetches : (IsOpenFor (most_programmed w d u) (image u o.now) → p.fetched u ≤ o.fetched u + most_settled w d u)
        → (IsOpenFor (most_put w rest u) (image u p.now) → q.fetched u ≤ p.fetched u + most_taken w rest u)
        → IsOpenFor (most_put w (d ∷ rest) u) (image u o.now) → q.fetched u ≤ o.fetched u + most_taken w (d ∷ rest) u
    then-fetches b c room = both-sum (q.fetched u) (p.fetched u) (o.fetched u) (most_taken w (d ∷ rest) u) (most_settled w d u) (most_taken w rest u) taken-is
        (b (first-room room)) (c (same (most_put w rest u) (rest-room room)))
