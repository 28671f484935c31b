-- Each call goes on from the moment at which it began.
use Rattle.std.proofs.Common.{◌≡◌, ◌↔◌, ◌⊎◌, inl, inr, ℕ, ◌+◌, ◌-◌, ◌≤◌, List, [], ◌∷◌, ◌++◌, length, drop, refl, sym, ◌∙◌, ap, subst, arith, append_assoc, length-append}
use Rattle.std.proofs.lemmas.Bool.{cases_lt}
use Rattle.std.proofs.Math.Seq.{drop-append-add}
use Rattle.newt_host.specs.Moments.{Event, Printed, Moment, output, MayLeave, Extends, Always, here, later, moment_at, LeftSince}
use Rattle.newt_host.specs.Outside.{PrintsSome, printed}

pub extends-refl : (m : Moment) → Extends m m
extends-refl m = record { more = []; is = refl }

pub extends-trans : {a b c : Moment} → Extends a b → Extends b c → Extends a c
extends-trans {a = a} first second = record { more = second.more ++ first.more; is = second.is ∙ ap (λ (m : Moment). second.more ++ m) first.is ∙ sym (append_assoc second.more first.more a) }

extends-one : (event : Event) (m : Moment) → Extends m (event ∷ m)
extends-one event m = record { more = event ∷ []; is = refl }

pub extends-always : {P : Moment → Type 0} {old new : Moment} → Always P old new → Extends old new
extends-always {old = old} (here p) = extends-refl old
extends-always (later event now so_far p) = extends-trans (extends-always so_far) (extends-one event now)

-- a moment that had come by then is the same since
pub moment-stays : (k : ℕ) {old new : Moment} → Extends old new → k ≤ length old → moment_at k new ≡ moment_at k old
moment-stays k {old = old} {new = new} e low =
    let long : length new ≡ length e.more + length old = ap length e.is ∙ length-append e.more old in
    let back : length new - k ≡ length e.more + (length old - k) = omega (arith, long, low) in
    ap (λ (m : Moment). drop (length new - k) m) e.is ∙ ap (λ (n : ℕ). drop n (e.more ++ old)) back ∙ drop-append-add e.more old (length old - k)

module _ (t unit : ℕ) (bytes out : List ℕ) {old new : Moment} (early : t ≤ length old) (e : Extends old new) where
  long : length old ≤ length new
  long = omega (arith, ap length e.is, length-append e.more old)

  split : LeftSince t unit bytes out new → LeftSince t unit bytes out old ⊎ LeftSince (length old) unit bytes out new
  split (k, from, to, may, printed_is) = elim (cases_lt (length old) k) [
    | inl late ↦ inr (k, omega (arith, late), to, may, printed_is)
    | inr soon ↦
        let same = moment-stays k e soon in
        inl (k, from, soon, subst (λ (m : Moment). MayLeave unit m bytes) same may, ap output (sym same) ∙ printed_is)
  ]

  join : LeftSince t unit bytes out old ⊎ LeftSince (length old) unit bytes out new → LeftSince t unit bytes out new
  join (inl (k, from, to, may, printed_is)) =
      let same = moment-stays k e to in
      (k, from, omega (arith, to, long), subst (λ (m : Moment). MayLeave unit m bytes) (sym same) may, ap output same ∙ printed_is)
  join (inr (k, from, to, may, printed_is)) = (k, omega (arith, from, early), to, may, printed_is)

  pub left_since-goes_on : LeftSince t unit bytes out new ↔ (LeftSince t unit bytes out old ⊎ LeftSince (length old) unit bytes out new)
  left_since-goes_on = (split, join)

-- P at each moment while bytes are printed
pub Always-printed : {P : Moment → Type 0} (bytes : List ℕ) (m : Moment) → ((done rest : List ℕ) → bytes ≡ done ++ rest → P (printed done m)) → Always P m (printed bytes m)
Always-printed [] m each = here (each [] [] refl)
Always-printed {P = P} (byte ∷ bytes) m each = first_then (each [] (byte ∷ bytes) refl) (Always-printed bytes (Printed byte ∷ m) (λ done rest is. each (byte ∷ done) rest (ap (λ (l : List ℕ). byte ∷ l) is)))
  where
    first_then : {event : Event} {a c : Moment} → P a → Always P (event ∷ a) c → Always P a c
    first_then {event = event} {a = a} p (here q) = later event a (here p) q
    first_then p (later event now so_far q) = later event now (first_then p so_far) q

-- the same where a write failed and may have printed a first part
pub Always-prints_some : {P : Moment → Type 0} {bytes : List ℕ} {old new : Moment} → PrintsSome bytes old new → ((done rest : List ℕ) → bytes ≡ done ++ rest → P (printed done old)) → Always P old new
Always-prints_some {P = P} {old = old} prints each = subst (λ (m : Moment). Always P old m) (sym prints.moment)
    (Always-printed prints.done old (λ done rest is. each done (rest ++ prints.rest) (prints.split ∙ ap (λ (l : List ℕ). l ++ prints.rest) is ∙ append_assoc done rest prints.rest)))

-- a piece is printed byte by byte
pub prints-each : (bytes : List ℕ) (m : Moment) → Always (PrintsSome bytes m) m (printed bytes m)
prints-each bytes m = Always-printed bytes m (λ done rest is. record { done = done; rest = rest; split = is; moment = refl })
