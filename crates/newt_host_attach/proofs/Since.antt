-- What has happened to a unit since it was attached, and nothing else was done.
use Rattle.std.proofs.Common.{◌≡◌, inl, inr, ℕ, suc, ◌+◌, ◌-◌, ◌<◌, ◌≤◌, Bool, true, false, cond, eqb, List, [], ◌∷◌, ◌++◌, length, drop, Option, Some, None, sym, ◌∙◌, ap, subst, arith}
use Rattle.std.proofs.lemmas.Bool.{cases_lt}
use Rattle.std.proofs.lemmas.List.{length-append}
use Rattle.newt_host.specs.Moments.{Event, On, Printed, Took, Change, Attached, Wrote, Synced, Moment, Extends, IsHistory, changes, output, attached_at, moment_at}
use Rattle.newt_host.proofs.Extending.{moment-stays}
use Rattle.newt_host.proofs.Histories.{untouched-attached}

step_moment : (event : Event) (m : Moment) (k : ℕ) → k ≤ length m → moment_at k (event ∷ m) ≡ moment_at k m
step_moment event m k early = let one : suc (length m) - k ≡ suc (length m - k) = omega (arith, early) in ap (λ (n : ℕ). drop n (event ∷ m)) one

whole_moment : (m : Moment) (k : ℕ) → length m ≤ k → moment_at k m ≡ m
whole_moment m k past = let none : length m - k ≡ 0 = omega (arith, past) in ap (λ (n : ℕ). drop n m) none

-- ---- the moments since it was attached

attached_before : (b : Bool) (c bytes : List ℕ) (cs : List Change) (n t k : ℕ) (o : Option ℕ) → cond b (Attached c ∷ cs) cs ≡ Attached bytes ∷ [] → cond b (Some n) o ≡ Some t → t ≤ k → k < n
    → (cs ≡ Attached bytes ∷ []) × (o ≡ Some t)
attached_before true c bytes cs n t k o only at from less = let same : n ≡ t = cc in absurd (omega (arith, same, from, less))
attached_before false c bytes cs n t k o only at from less = (only, at)

wrote_before : (b : Bool) (at : ℕ) (now bytes : List ℕ) (cs : List Change) → cond b (Wrote at now ∷ cs) cs ≡ Attached bytes ∷ [] → cs ≡ Attached bytes ∷ []
wrote_before true at now bytes cs only = absurd (cc)
wrote_before false at now bytes cs only = only

synced_before : (b : Bool) (bytes : List ℕ) (cs : List Change) → cond b (Synced ∷ cs) cs ≡ Attached bytes ∷ [] → cs ≡ Attached bytes ∷ []
synced_before true bytes cs only = absurd (cc)
synced_before false bytes cs only = only

only_attached : (unit t k : ℕ) (bytes : List ℕ) (m : Moment) → changes unit m ≡ Attached bytes ∷ [] → attached_at unit m ≡ Some t → t ≤ k → k ≤ length m
    → changes unit (moment_at k m) ≡ Attached bytes ∷ []
only_attached unit t k bytes [] only at from to = absurd (cc)
only_attached unit t k bytes (On u (Attached c) ∷ before) only at from to = elim (cases_lt (length before) k) [
  | inl late ↦ ap (λ (m : Moment). changes unit m) (whole_moment (On u (Attached c) ∷ before) k (omega (arith, late))) ∙ only
  | inr early ↦
      let was = attached_before (eqb u unit) c bytes (changes unit before) (length before + 1) t k (attached_at unit before) only at from (omega (arith, early)) in
      ap (λ (m : Moment). changes unit m) (step_moment (On u (Attached c)) before k early) ∙ only_attached unit t k bytes before was.0 was.1 from early
]
only_attached unit t k bytes (On u (Wrote place now) ∷ before) only at from to = elim (cases_lt (length before) k) [
  | inl late ↦ ap (λ (m : Moment). changes unit m) (whole_moment (On u (Wrote place now) ∷ before) k (omega (arith, late))) ∙ only
  | inr early ↦ ap (λ (m : Moment). changes unit m) (step_moment (On u (Wrote place now)) before k early)
      ∙ only_attached unit t k bytes before (wrote_before (eqb u unit) place now bytes (changes unit before) only) at from early
]
only_attached unit t k bytes (On u Synced ∷ before) only at from to = elim (cases_lt (length before) k) [
  | inl late ↦ ap (λ (m : Moment). changes unit m) (whole_moment (On u Synced ∷ before) k (omega (arith, late))) ∙ only
  | inr early ↦ ap (λ (m : Moment). changes unit m) (step_moment (On u Synced) before k early)
      ∙ only_attached unit t k bytes before (synced_before (eqb u unit) bytes (changes unit before) only) at from early
]
only_attached unit t k bytes (Printed byte ∷ before) only at from to = elim (cases_lt (length before) k) [
  | inl late ↦ ap (λ (m : Moment). changes unit m) (whole_moment (Printed byte ∷ before) k (omega (arith, late))) ∙ only
  | inr early ↦ ap (λ (m : Moment). changes unit m) (step_moment (Printed byte) before k early) ∙ only_attached unit t k bytes before only at from early
]
only_attached unit t k bytes (Took got ∷ before) only at from to = elim (cases_lt (length before) k) [
  | inl late ↦ ap (λ (m : Moment). changes unit m) (whole_moment (Took got ∷ before) k (omega (arith, late))) ∙ only
  | inr early ↦ ap (λ (m : Moment). changes unit m) (step_moment (Took got) before k early) ∙ only_attached unit t k bytes before only at from early
]

-- ---- it is attached once

longer : (unit : ℕ) (more mid : Moment) → length (changes unit mid) ≤ length (changes unit (more ++ mid))
longer unit [] mid = omega arith
longer unit (On u change ∷ more) mid = both (eqb u unit) (longer unit more mid)
  where
    both : (b : Bool) → length (changes unit mid) ≤ length (changes unit (more ++ mid)) → length (changes unit mid) ≤ length (cond b (change ∷ changes unit (more ++ mid)) (changes unit (more ++ mid)))
    both true le = omega (arith, le)
    both false le = le
longer unit (Printed byte ∷ more) mid = longer unit more mid
longer unit (Took got ∷ more) mid = longer unit more mid

history_wrote : (b : Bool) (size at : ℕ) (now : List ℕ) (cs : List Change) → IsHistory size (cond b (Wrote at now ∷ cs) cs) → IsHistory size cs
history_wrote true size at now cs h = h.0
history_wrote false size at now cs h = h

history_synced : (b : Bool) (size : ℕ) (cs : List Change) → IsHistory size (cond b (Synced ∷ cs) cs) → IsHistory size cs
history_synced true size cs h = h
history_synced false size cs h = h

history_attached : (b : Bool) (size n t : ℕ) (bytes : List ℕ) (cs : List Change) (o : Option ℕ) → 0 < length cs → IsHistory size (cond b (Attached bytes ∷ cs) cs) → cond b (Some n) o ≡ Some t
    → IsHistory size cs × (o ≡ Some t)
history_attached true size n t bytes cs o some h at = absurd (omega (arith, some, h.1))
history_attached false size n t bytes cs o some h at = (h, at)

attached_once : (unit size t : ℕ) (more mid : Moment) → 0 < length (changes unit mid) → IsHistory size (changes unit (more ++ mid)) → attached_at unit (more ++ mid) ≡ Some t → attached_at unit mid ≡ Some t
attached_once unit size t [] mid some h at = at
attached_once unit size t (On u (Attached bytes) ∷ more) mid some h at =
    let was = history_attached (eqb u unit) size (length (more ++ mid) + 1) t bytes (changes unit (more ++ mid)) (attached_at unit (more ++ mid)) (omega (arith, some, longer unit more mid)) h at in
    attached_once unit size t more mid some was.0 was.1
attached_once unit size t (On u (Wrote place now) ∷ more) mid some h at = attached_once unit size t more mid some (history_wrote (eqb u unit) size place now (changes unit (more ++ mid)) h) at
attached_once unit size t (On u Synced ∷ more) mid some h at = attached_once unit size t more mid some (history_synced (eqb u unit) size (changes unit (more ++ mid)) h) at
attached_once unit size t (Printed byte ∷ more) mid some h at = attached_once unit size t more mid some h at
attached_once unit size t (Took got ∷ more) mid some h at = attached_once unit size t more mid some h at

-- ---- and not before

one_or_other : (b : Bool) (n t least : ℕ) (o : Option ℕ) → least ≤ n → (o ≡ Some t → least ≤ t) → cond b (Some n) o ≡ Some t → least ≤ t
one_or_other true n t least o low else is = let same : n ≡ t = cc in omega (arith, same, low)
one_or_other false n t least o low else is = else is

attached_after : (unit t : ℕ) (more old : Moment) → changes unit old ≡ [] → attached_at unit (more ++ old) ≡ Some t → length old ≤ t
attached_after unit t [] old none at = let never : attached_at unit old ≡ None = untouched-attached unit old none in absurd (cc)
attached_after unit t (On u (Attached bytes) ∷ more) old none at =
    one_or_other (eqb u unit) (length (more ++ old) + 1) t (length old) (attached_at unit (more ++ old)) (omega (arith, length-append more old)) (attached_after unit t more old none) at
attached_after unit t (On u (Wrote place now) ∷ more) old none at = attached_after unit t more old none at
attached_after unit t (On u Synced ∷ more) old none at = attached_after unit t more old none at
attached_after unit t (Printed byte ∷ more) old none at = attached_after unit t more old none at
attached_after unit t (Took got ∷ more) old none at = attached_after unit t more old none at

-- ---- where nothing was printed

no_less : (more old : Moment) → length (output old) ≤ length (output (more ++ old))
no_less [] old = omega arith
no_less (On u change ∷ more) old = no_less more old
no_less (Printed byte ∷ more) old = omega (arith, no_less more old, length-append (output (more ++ old)) (byte ∷ []))
no_less (Took got ∷ more) old = no_less more old

quiet_at : (k : ℕ) (more old : Moment) → output (more ++ old) ≡ output old → length old ≤ k → k ≤ length (more ++ old) → output (moment_at k (more ++ old)) ≡ output old
quiet_at k [] old same from to = ap output (whole_moment old k from)
quiet_at k (On u change ∷ more) old same from to = elim (cases_lt (length (more ++ old)) k) [
  | inl late ↦ ap output (whole_moment (On u change ∷ (more ++ old)) k (omega (arith, late))) ∙ same
  | inr early ↦ ap output (step_moment (On u change) (more ++ old) k early) ∙ quiet_at k more old same from early
]
quiet_at k (Took got ∷ more) old same from to = elim (cases_lt (length (more ++ old)) k) [
  | inl late ↦ ap output (whole_moment (Took got ∷ (more ++ old)) k (omega (arith, late))) ∙ same
  | inr early ↦ ap output (step_moment (Took got) (more ++ old) k early) ∙ quiet_at k more old same from early
]
quiet_at k (Printed byte ∷ more) old same from to =
    absurd (omega (arith, no_less more old, length-append (output (more ++ old)) (byte ∷ []), ap length same))

-- From its attach until all names are attached a unit is as its device was held, and the output stays.
pub since_attached : (unit t k size : ℕ) (bytes : List ℕ) (old mid new : Moment) → changes unit old ≡ [] → Extends old mid → output mid ≡ output old → changes unit mid ≡ Attached bytes ∷ []
    → Extends mid new → IsHistory size (changes unit new) → attached_at unit new ≡ Some t → t ≤ k → k ≤ length mid
    → (changes unit (moment_at k new) ≡ Attached bytes ∷ []) × (output (moment_at k new) ≡ output mid)
since_attached unit t k size bytes old mid new none first quiet only second history at from to =
    let P : Moment → Type 0 = λ m. IsHistory size (changes unit m) in
    let some : 0 < length (changes unit mid) = omega (arith, ap length only) in
    let there = attached_once unit size t second.more mid some (subst P second.is history) (ap (λ (m : Moment). attached_at unit m) (sym second.is) ∙ at) in
    let low = attached_after unit t first.more old none (ap (λ (m : Moment). attached_at unit m) (sym first.is) ∙ there) in
    let stays = moment-stays k second to in
    let size_is : length mid ≡ length (first.more ++ old) = ap length first.is in (
      ap (λ (m : Moment). changes unit m) stays ∙ only_attached unit t k bytes mid only there from to,
      ap output stays ∙ (ap (λ (m : Moment). output (moment_at k m)) first.is
          ∙ (quiet_at k first.more old (ap output (sym first.is) ∙ quiet) (omega (arith, low, from)) (omega (arith, to, size_is)) ∙ sym quiet)),
    )
