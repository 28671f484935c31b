-- What calls cost, and what they cost together.
use Rattle.std.proofs.Common.{arith, ◌≡◌, ◌≢◌, refl, ap, sym, ◌∙◌, subst, ℕ, ◌+◌, ◌≤◌, ◌==◌, ◌⊎◌, inl, inr, List, Bool, true, false, cond}
use Rattle.std.specs.Prelude.{Result}
use Rattle.std.proofs.lemmas.Bool.{eq-eqb, ne_eqb}
use Rattle.newt_host.specs.Moments.{Moment, bytes_after, changes, image}
use Rattle.newt_host.specs.Outside.{Outside, Spends, Touches, Wears}
use Rattle.newt_host.proofs.Outside.{Wears-append, Wears-refl, Wears-widen}
use Rattle.newt_spec_image.specs.Records.{bank_blocks}
use Rattle.newt_pagebook.specs.Book.{IsOpenFor}
use Rattle.newt_laws_world.proofs.Units.{same-or-not}
use Rattle.newt_spec_graph.proofs.Lists.{both-ways}
use Rattle.newt_store_change.specs.declared.fault.StoreFault.{StoreFault}
use Rattle.newt_engine_card.specs.Bounds.{Costs, CostsOn, FetchesAtMost, FetchesOn, FetchesWithin, FormatsOnce, IsOpenOrSame, LeftAlone, ProgramsAtMost, of_unit}
use Rattle.newt_store_change.specs.Faults.{GoesOn}

-- a bank with room for so many bytes has room for fewer
pub room-for-less : {n m : ℕ} {bytes : List ℕ} → n ≤ m → IsOpenFor m bytes → IsOpenFor n bytes
room-for-less less h = record { is_open = h.is_open; room = let r = h.room in omega (arith, less, r) }

-- a unit to which nothing has happened since then is as open
still-open : (u n : ℕ) (a b : Moment) → changes u a ≡ changes u b → IsOpenFor n (image u b) → IsOpenFor n (image u a)
still-open u n a b same h = subst (λ c. IsOpenFor n (bytes_after c)) (sym same) h

same-still : (u : ℕ) (a b c : Moment) → changes u c ≡ changes u b → IsOpenOrSame u a b → IsOpenOrSame u a c
same-still u a b c same (inl h) = inl (still-open u 0 c b same h)
same-still u a b c same (inr before) = inr (ap bytes_after same ∙ before)

pub same-before : (u : ℕ) (a b c : Moment) → image u b ≡ image u a → IsOpenOrSame u b c → IsOpenOrSame u a c
same-before u a b c same (inl h) = inl h
same-before u a b c same (inr later) = inr (later ∙ same)

-- a unit is left open, and no other is other than it was
pub opened-alone : (u : ℕ) (a b : Moment) → IsOpenFor 0 (image u b) → ((j : ℕ) → j ≢ u → changes j b ≡ changes j a) → (j : ℕ) → IsOpenOrSame j a b
opened-alone u a b h others j = go (same-or-not j u)
  where
    go : (j ≡ u) ⊎ (j ≡ u → ⊥) → IsOpenOrSame j a b
    go (inl is) = inl (subst (λ k. IsOpenFor 0 (image k b)) (sym is) h)
    go (inr not) = inr (ap bytes_after (others j not))

-- ---- one call

pub alone-refl : (u : ℕ) (o : Outside) → LeftAlone u o o
alone-refl u o = record { programmed = omega arith; wears = Wears-refl u o; changes = refl }

pub alone-append : {u : ℕ} {o p q : Outside} → LeftAlone u o p → LeftAlone u p q → LeftAlone u o q
alone-append a b = record {
  programmed = let x = a.programmed in let y = b.programmed in omega (arith, x, y);
  wears = Wears-append 0 0 0 0 a.wears b.wears;
  changes = b.changes ∙ a.changes;
}

-- a unit that was left alone costs no more than anything
pub alone-bound : {u : ℕ} {o p : Outside} (n : ℕ) → LeftAlone u o p → ProgramsAtMost n u o p
alone-bound n a = record {
  programmed = λ room. let h = a.programmed in omega (arith, h);
  wears = λ room. Wears-widen 0 0 0 2 (omega arith) (omega arith) a.wears;
}

-- a call costs no more than a higher bound
pub widened : {u n m : ℕ} {o p : Outside} → n ≤ m → ProgramsAtMost n u o p → ProgramsAtMost m u o p
widened less b = record {
  programmed = λ room. let h = b.programmed (room-for-less less room) in omega (arith, h, less);
  wears = λ room. b.wears (room-for-less less room);
}

-- a call after one that left the unit alone
bound-after : {u n : ℕ} {o p q : Outside} → LeftAlone u o p → ProgramsAtMost n u p q → ProgramsAtMost n u o q
bound-after {u} {n} {o} {p} {q} a b = record {
  programmed = λ room. let h = b.programmed (still-open u n p.now o.now a.changes room) in let k = a.programmed in omega (arith, h, k);
  wears = λ room. Wears-append 0 0 0 2 a.wears (b.wears (still-open u n p.now o.now a.changes room));
}

-- and one before it
pub bound-before : {u n : ℕ} {o p q : Outside} → ProgramsAtMost n u o p → LeftAlone u p q → ProgramsAtMost n u o q
bound-before b a = record {
  programmed = λ room. let h = b.programmed room in let k = a.programmed in omega (arith, h, k);
  wears = λ room. Wears-append 0 2 0 0 (b.wears room) a.wears;
}

-- ---- a format

-- a unit that was left alone costs no more than a format
pub alone-once : {u n : ℕ} {o p : Outside} (syncs : ℕ) → LeftAlone u o p → FormatsOnce n syncs u o p
alone-once {u} {n} {o} {p} syncs a = record {
  programmed = let h = a.programmed in omega (arith, h);
  wears = Wears-widen 0 0 (bank_blocks (o.blocks u) + 3) syncs (omega arith) (omega arith) a.wears;
}

-- a format after what left the unit alone
pub once-after : {u n syncs : ℕ} {o p q : Outside} → LeftAlone u o p → p.blocks u ≡ o.blocks u → FormatsOnce n syncs u p q → FormatsOnce n syncs u o q
once-after {u} {n} {syncs} {o} {p} {q} a same b = let bank = bank_blocks (p.blocks u) + 3 in record {
  programmed = let h = a.programmed in let k = b.programmed in omega (arith, h, k);
  wears = subst (λ (k : ℕ). Wears u (bank_blocks k + 3) syncs o q) same
      (Wears-widen (0 + bank) (0 + syncs) bank syncs (omega arith) (omega arith) (Wears-append 0 0 bank syncs a.wears b.wears));
}

-- and one before it
pub once-before : {u n syncs : ℕ} {o p q : Outside} → FormatsOnce n syncs u o p → LeftAlone u p q → FormatsOnce n syncs u o q
once-before {u} {n} {syncs} {o} {p} {q} b a = let bank = bank_blocks (o.blocks u) + 3 in record {
  programmed = let h = b.programmed in let k = a.programmed in omega (arith, h, k);
  wears = Wears-widen (bank + 0) (syncs + 0) bank syncs (omega arith) (omega arith) (Wears-append bank syncs 0 0 b.wears a.wears);
}

-- a unit is formatted, and no other is touched
pub format-once : {unit n : ℕ} {o p : Outside} → Spends unit n 0 o p → Wears unit (bank_blocks (o.blocks unit) + 3) 9 o p → Touches unit o p → (u : ℕ) → FormatsOnce n 9 u o p
format-once {unit} {n} {o} {p} spends wears touches u = go (same-or-not u unit)
  where
    go : (u ≡ unit) ⊎ (u ≡ unit → ⊥) → FormatsOnce n 9 u o p
    go (inl is) = subst (λ (k : ℕ). FormatsOnce n 9 k o p) (sym is) (record { programmed = spends.programmed; wears = wears })
    go (inr other) = let work = touches.others u other in record {
      programmed = let h = work.programmed in omega (arith, h);
      wears = let a = work.erased in let b = work.synced in
          Wears-widen 0 0 (bank_blocks (o.blocks u) + 3) 9 (omega arith) (omega arith) (record { erased = omega (arith, a); synced = omega (arith, b) });
    }

-- and it was synced before
pub synced-once : {unit n : ℕ} {o m p : Outside} → Touches unit o m → (m.programmed unit ≤ o.programmed unit) × Wears unit 0 1 o m → ((u : ℕ) → FormatsOnce n 9 u m p) → (u : ℕ) → FormatsOnce n 10 u o p
synced-once {unit} {n} {o} {m} {p} touches costs once u = let bank = bank_blocks (m.blocks u) + 3 in let b = once u in let s = synced (same-or-not u unit) in record {
  programmed = let h = s.0 in let k = b.programmed in omega (arith, h, k);
  wears = subst (λ (k : ℕ). Wears u (bank_blocks k + 3) 10 o p) (touches.cards.blocks u)
      (Wears-widen (0 + bank) 10 bank 10 (omega arith) (omega arith) (Wears-append 0 1 bank 9 s.1 b.wears));
}
  where
    synced : (u ≡ unit) ⊎ (u ≡ unit → ⊥) → (m.programmed u ≤ o.programmed u) × Wears u 0 1 o m
    synced (inl is) = subst (λ (k : ℕ). (m.programmed k ≤ o.programmed k) × Wears k 0 1 o m) (sym is) costs
    synced (inr other) = let work = touches.others u other in
        (let h = work.programmed in omega (arith, h), let a = work.erased in let b = work.synced in record { erased = omega (arith, a); synced = omega (arith, b) })

-- ---- what is fetched

-- nothing is fetched by none
pub idle-fetches : (most fetches : ℕ → ℕ) (o : Outside) → FetchesWithin most fetches o o
idle-fetches most fetches o u room = up (o.fetched u) (fetches u)
  where
    up : (a b : ℕ) → a ≤ a + b
    up a b = omega arith

-- so much of one unit is no more than may be of each
pub of-unit-most : (unit n : ℕ) (most : ℕ → ℕ) → n ≤ most unit → (u : ℕ) → of_unit unit n u ≤ most u
of-unit-most unit n most less u = go (same-or-not unit u)
  where
    low : (a b c : ℕ) → a ≡ b → b ≤ c → a ≤ c
    low a b c h k = omega (arith, h, k)

    none : (a b : ℕ) → a ≡ 0 → a ≤ b
    none a b h = omega (arith, h)

    go : (unit ≡ u) ⊎ (unit ≡ u → ⊥) → of_unit unit n u ≤ most u
    go (inl is) = subst (λ k. of_unit unit n k ≤ most k) is (low (of_unit unit n unit) n (most unit) (ap (λ b. cond b n 0) (eq-eqb unit unit refl)) less)
    go (inr other) = none (of_unit unit n u) (most u) (ap (λ b. cond b n 0) (ne_eqb unit u other))

-- a call that reads one unit
pub read-few : (unit n : ℕ) (fetches : ℕ → ℕ) (o p : Outside) → FetchesAtMost (of_unit unit n) o p → n ≤ fetches unit → FetchesAtMost fetches o p
read-few unit n fetches o p reads less u = low (p.fetched u) (o.fetched u) (of_unit unit n u) (fetches u) (reads u) (of-unit-most unit n fetches less u)
  where
    low : (a b c d : ℕ) → a ≤ b + c → c ≤ d → a ≤ b + d
    low a b c d h k = omega (arith, h, k)

-- a call on one unit
pub on-few : (most : ℕ → ℕ) {unit n k : ℕ} {o p : Outside} → FetchesOn unit n k o p → n ≤ most unit → (u : ℕ) → IsOpenFor (most u) (image u o.now) → p.fetched u ≤ o.fetched u + of_unit unit k u
on-few most {unit} {n} {k} {o} {p} f less u room = go (same-or-not unit u)
  where
    same : (a b c d : ℕ) → c ≡ d → a ≤ b + d → a ≤ b + c
    same a b c d h k = omega (arith, h, k)

    more : (a b c : ℕ) → a ≤ b → a ≤ b + c
    more a b c h = omega (arith, h)

    go : (unit ≡ u) ⊎ (unit ≡ u → ⊥) → p.fetched u ≤ o.fetched u + of_unit unit k u
    go (inl is) = subst (λ j. p.fetched j ≤ o.fetched j + of_unit unit k j) is
        (same (p.fetched unit) (o.fetched unit) (of_unit unit k unit) k (ap (λ b. cond b k 0) (eq-eqb unit unit refl))
        (f.fetched (room-for-less less (subst (λ j. IsOpenFor (most j) (image j o.now)) (sym is) room))))
    go (inr other) = more (p.fetched u) (o.fetched u) (of_unit unit k u) (f.unread u (λ e. other (sym e)))

-- a call after one that read, and did nothing
pub call-after-read : (most reads fetches both : ℕ → ℕ) (o p q : Outside) → FetchesAtMost reads o p → p.now ≡ o.now → ((u : ℕ) → IsOpenFor (most u) (image u p.now) → q.fetched u ≤ p.fetched u + fetches u)
    → ((u : ℕ) → reads u + fetches u ≤ both u) → FetchesWithin most both o q
call-after-read most reads fetches both o p q first same second fits u room =
    low (q.fetched u) (p.fetched u) (o.fetched u) (reads u) (fetches u) (both u) (first u) (second u (subst (λ now. IsOpenFor (most u) (image u now)) (sym same) room)) (fits u)
  where
    low : (a b c d e f : ℕ) → b ≤ c + d → a ≤ b + e → d + e ≤ f → a ≤ c + f
    low a b c d e f h k l = omega (arith, h, k, l)

-- of the same unit, and where the second fetches nothing
pub same-fits : (unit m k : ℕ) (both : ℕ → ℕ) → m + k ≤ both unit → (u : ℕ) → of_unit unit m u + of_unit unit k u ≤ both u
same-fits unit m k both less u = go (same-or-not unit u)
  where
    low : (a b c d e : ℕ) → a ≡ c → b ≡ d → c + d ≤ e → a + b ≤ e
    low a b c d e h k l = omega (arith, h, k, l)

    none : (a b c : ℕ) → a ≡ 0 → b ≡ 0 → a + b ≤ c
    none a b c h k = omega (arith, h, k)

    go : (unit ≡ u) ⊎ (unit ≡ u → ⊥) → of_unit unit m u + of_unit unit k u ≤ both u
    go (inl is) = subst (λ j. of_unit unit m j + of_unit unit k j ≤ both j) is
        (low (of_unit unit m unit) (of_unit unit k unit) m k (both unit) (ap (λ b. cond b m 0) (eq-eqb unit unit refl)) (ap (λ b. cond b k 0) (eq-eqb unit unit refl)) less)
    go (inr other) = none (of_unit unit m u) (of_unit unit k u) (both u) (ap (λ b. cond b m 0) (ne_eqb unit u other)) (ap (λ b. cond b k 0) (ne_eqb unit u other))

pub none-fits : (unit m other : ℕ) (both : ℕ → ℕ) → m ≤ both unit → (u : ℕ) → of_unit unit m u + of_unit other 0 u ≤ both u
none-fits unit m other both less u = low (of_unit unit m u) (of_unit other 0 u) (both u) (of-unit-most unit m both less u) (nothing (other == u))
  where
    low : (a b c : ℕ) → a ≤ c → b ≡ 0 → a + b ≤ c
    low a b c h k = omega (arith, h, k)

    nothing : (b : Bool) → ◌≡◌ {A = ℕ} (cond b 0 0) 0
    nothing true = refl
    nothing false = refl

-- ---- calls

-- nothing is programmed by none
pub idle-costs : {T : Type 0} (most : ℕ → ℕ) (said : Bool) (fetches : ℕ → ℕ) (result : Result T StoreFault) (o : Outside) → Costs most said fetches result o o
idle-costs most said fetches result o = record {
  bound = λ u. alone-bound (most u) (alone-refl u o);
  fetched = λ is. idle-fetches most fetches o;
  open_after = λ goes u. inr refl;
}

-- a call that reads costs nothing
pub read-costs : {T : Type 0} (most : ℕ → ℕ) (said : Bool) (fetches : ℕ → ℕ) (result : Result T StoreFault) {o p : Outside} → ((u : ℕ) → LeftAlone u o p)
    → (said ≡ true → FetchesAtMost fetches o p) → Costs most said fetches result o p
read-costs most said fetches result {o} {p} alone few = record {
  bound = λ u. alone-bound (most u) (alone u);
  fetched = λ is u room. few is u;
  open_after = λ goes u. inr (ap bytes_after (alone u).changes);
}

-- a sync of one unit, and a call that reads
pub synced-costs : {T : Type 0} (most : ℕ → ℕ) (fetches : ℕ → ℕ) (result : Result T StoreFault) (u : ℕ) {o m p : Outside} → Touches u o m → (m.programmed u ≤ o.programmed u) × Wears u 0 1 o m
    → ((j : ℕ) → image j m.now ≡ image j o.now) → ((j : ℕ) → LeftAlone j m p) → Costs most false fetches result o p
synced-costs most fetches result u {o} {m} {p} touches costs same alone = record {
  bound = λ j. bound j (same-or-not j u);
  fetched = λ is. absurd (both-ways is);
  open_after = λ goes j. inr (ap bytes_after (alone j).changes ∙ same j);
}
  where
    bound : (j : ℕ) → (j ≡ u) ⊎ (j ≡ u → ⊥) → ProgramsAtMost (most j) j o p
    bound j (inl is) = subst (λ k. ProgramsAtMost (most k) k o p) (sym is) (record {
      programmed = λ room. let a = costs.0 in let b = (alone u).programmed in omega (arith, a, b);
      wears = λ room. Wears-widen 0 1 0 2 (omega arith) (omega arith) (Wears-append 0 1 0 0 costs.1 (alone u).wears);
    })
    bound j (inr other) = let work = touches.others j other in record {
      programmed = λ room. let a = work.programmed in let b = (alone j).programmed in omega (arith, a, b);
      wears = λ room. let a = work.erased in let b = work.synced in
          Wears-widen 0 0 0 2 (omega arith) (omega arith) (Wears-append 0 0 0 0 (record { erased = omega (arith, a); synced = omega (arith, b) }) (alone j).wears);
    }

-- a call on one unit is a call
pub on-costs : {T : Type 0} {most : ℕ → ℕ} {said : Bool} {fetches : ℕ → ℕ} {u n : ℕ} {result : Result T StoreFault} {o p : Outside} → CostsOn u n result o p → n ≤ most u
    → (said ≡ true → FetchesWithin most fetches o p) → Costs most said fetches result o p
on-costs {most = most} {u = u} {n} {result} {o} {p} c less few = record {
  bound = λ j. bound j (same-or-not j u);
  fetched = few;
  open_after = λ goes j. opened goes j (same-or-not j u);
}
  where
    bound : (j : ℕ) → (j ≡ u) ⊎ (j ≡ u → ⊥) → ProgramsAtMost (most j) j o p
    bound j (inl is) = subst (λ k. ProgramsAtMost (most k) k o p) (sym is) (widened less c.bound)
    bound j (inr not) = alone-bound (most j) (c.others j not)

    opened : GoesOn result → (j : ℕ) → (j ≡ u) ⊎ (j ≡ u → ⊥) → IsOpenOrSame j o.now p.now
    opened goes j (inl is) = subst (λ k. IsOpenOrSame k o.now p.now) (sym is) (c.open_after goes)
    opened goes j (inr not) = inr (ap bytes_after (c.others j not).changes)

-- another result of the same call
pub costs-of : {T S : Type 0} {most : ℕ → ℕ} {said : Bool} {fetches : ℕ → ℕ} {first : Result T StoreFault} {second : Result S StoreFault} {o p : Outside} → Costs most said fetches first o p
    → (GoesOn second → GoesOn first) → Costs most said fetches second o p
costs-of c goes = record { bound = c.bound; fetched = c.fetched; open_after = λ on. c.open_after (goes on) }

-- ---- two calls

-- after a call that reads
pub after-read : {T : Type 0} {u n : ℕ} {result : Result T StoreFault} {o p q : Outside} → ((j : ℕ) → LeftAlone j o p) → CostsOn u n result p q → CostsOn u n result o q
after-read {u = u} {n} {result} {o} {p} {q} alone c = record {
  bound = bound-after (alone u) c.bound;
  open_after = λ goes. same-before u o.now p.now q.now (ap bytes_after (alone u).changes) (c.open_after goes);
  others = λ j not. alone-append (alone j) (c.others j not);
}

-- two calls on two units
pub both-costs : {T S : Type 0} {most : ℕ → ℕ} {said : Bool} {fetches : ℕ → ℕ} {v u n m : ℕ} {first : Result T StoreFault} {second : Result S StoreFault} {o p q : Outside}
    → CostsOn v n first o p → CostsOn u m second p q → v ≢ u → n ≤ most v → m ≤ most u → GoesOn first → (said ≡ true → FetchesWithin most fetches o q) → Costs most said fetches second o q
both-costs {most = most} {v = v} {u} {n} {m} {first} {second} {o} {p} {q} a b apart less_v less_u goes_a few = record {
  bound = λ j. bound j (same-or-not j v) (same-or-not j u);
  fetched = few;
  open_after = λ goes j. opened goes j (same-or-not j v) (same-or-not j u);
}
  where
    bound : (j : ℕ) → (j ≡ v) ⊎ (j ≡ v → ⊥) → (j ≡ u) ⊎ (j ≡ u → ⊥) → ProgramsAtMost (most j) j o q
    bound j (inl is) x = subst (λ k. ProgramsAtMost (most k) k o q) (sym is) (widened less_v (bound-before a.bound (b.others v apart)))
    bound j (inr not) (inl is) = subst (λ k. ProgramsAtMost (most k) k o q) (sym is) (widened less_u (bound-after (a.others u (λ e. apart (sym e))) b.bound))
    bound j (inr not) (inr other) = alone-bound (most j) (alone-append (a.others j not) (b.others j other))

    opened : GoesOn second → (j : ℕ) → (j ≡ v) ⊎ (j ≡ v → ⊥) → (j ≡ u) ⊎ (j ≡ u → ⊥) → IsOpenOrSame j o.now q.now
    opened goes j (inl is) x = subst (λ k. IsOpenOrSame k o.now q.now) (sym is) (same-still v o.now p.now q.now (b.others v apart).changes (a.open_after goes_a))
    opened goes j (inr not) (inl is) = subst (λ k. IsOpenOrSame k o.now q.now) (sym is) (same-before u o.now p.now q.now (ap bytes_after (a.others u (λ e. apart (sym e))).changes) (b.open_after goes))
    opened goes j (inr not) (inr other) = inr (ap bytes_after ((b.others j other).changes ∙ (a.others j not).changes))
