-- What a crash leaves of a device has as many bytes as the device.
use Rattle.std.proofs.Common.{◌≡◌, ℕ, ◌≤◌, Bool, true, false, cond, eqb, List, [], ◌∷◌, length, ◌∙◌, ap, arith}
use Rattle.newt_host.specs.Moments.{Change, Attached, Wrote, Synced, On, Printed, Took, Moment, LeftBy, changes, IsHistory, Always, here, later, Leaves}
use Rattle.newt_host.proofs.Moments.{Always-map}
use Rattle.newt_host.proofs.Histories.{history-length}

left-length : (size : ℕ) (done : List Change) (left : List ℕ) → IsHistory size done → LeftBy done left → length left ≡ size
left-length size [] left h may = absurd h
left-length size (Attached bytes ∷ before) left h may = ap (λ (l : List ℕ). length l) may ∙ h.0
left-length size (Wrote at now ∷ before) left h may = may.2.size ∙ left-length size before may.0 h.0 may.1
left-length size (Synced ∷ before) left h may = ap (λ (l : List ℕ). length l) may ∙ history-length size before h

-- a history goes on from one that had begun
fewer : (b : Bool) (change : Change) (n : ℕ) (before : List Change) → n ≤ length before → n ≤ length (cond b (change ∷ before) before)
fewer true change n before low = omega (arith, low)
fewer false change n before low = low

more_changes : {P : Moment → Type 0} (unit : ℕ) {old new : Moment} → Always P old new → length (changes unit old) ≤ length (changes unit new)
more_changes unit (here p) = omega arith
more_changes unit (later (On u change) now so_far p) = fewer (eqb u unit) change _ (changes unit now) (more_changes unit so_far)
more_changes unit (later (Printed byte) now so_far p) = more_changes unit so_far
more_changes unit (later (Took bytes) now so_far p) = more_changes unit so_far

begun : (size : ℕ) (done : List Change) → IsHistory size done → 1 ≤ length done
begun size [] h = absurd h
begun size (change ∷ before) h = omega arith

one_back : (b : Bool) (size n : ℕ) (change : Change) (before : List Change) → 1 ≤ n → n ≤ length before → IsHistory size (cond b (change ∷ before) before) → IsHistory size before
one_back true size n (Attached bytes) before low high h = absurd (omega (arith, low, high, h.1))
one_back true size n (Wrote at now) before low high h = h.0
one_back true size n Synced before low high h = h
one_back false size n change before low high h = h

each_history : {P : Moment → Type 0} (unit size : ℕ) {old new : Moment} → IsHistory size (changes unit old) → IsHistory size (changes unit new) → Always P old new → Always (λ m. P m × IsHistory size (changes unit m)) old new
each_history unit size first last (here p) = here (p, first)
each_history unit size {old = old} first last (later (On u change) now so_far p) =
    let was = one_back (eqb u unit) size (length (changes unit old)) change (changes unit now) (begun size (changes unit old) first) (more_changes unit so_far) last in
    later (On u change) now (each_history unit size first was so_far) (p, last)
each_history unit size first last (later (Printed byte) now so_far p) = later (Printed byte) now (each_history unit size first last so_far) (p, last)
each_history unit size first last (later (Took bytes) now so_far p) = later (Took bytes) now (each_history unit size first last so_far) (p, last)

-- so at each moment of a call what a crash leaves has as many bytes
pub Leaves-length : {unit size : ℕ} {P : List ℕ → Type 0} {old new : Moment} → IsHistory size (changes unit old) → IsHistory size (changes unit new) → Leaves unit P old new → Leaves unit (λ left. (length left ≡ size) × P left) old new
Leaves-length {unit = unit} {size = size} {P = P} {old = old} first last leaves = Always-map
    (λ m both. record {
      others = both.0.others;
      output = both.0.output;
      unread = both.0.unread;
      crash = λ left may. (left-length size (changes unit m) left both.1 may, both.0.crash left may);
    })
    (each_history unit size first last leaves)
