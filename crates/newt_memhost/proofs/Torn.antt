-- The log up to one of its calls, and the image that a pick chooses there.
use Rattle.std.proofs.Common.{◌≡◌, ◌⊎◌, inl, inr, ℕ, ◌+◌, ◌-◌, ◌/◌, ◌<◌, ◌≤◌, Bool, true, false, cond, eqb, List, [], ◌∷◌, ◌++◌, length, take, drop, get_or, eq-eqb, slice_get, sum_by, replicate, Option, Some, None, refl, sym, ◌∙◌, ap, subst, arith, length-append, length-drop, length-take, take-append-drop, append-nil}
use Rattle.std.proofs.lemmas.List.{take_more, length-replicate, drop-drop}
use Rattle.std.proofs.lemmas.List.Sums.{sum_by-cons}
use Rattle.std.proofs.lemmas.Bool.{false≢true}
use Rattle.newt_host.specs.Moments.{Change, Attached, Wrote, Synced, Moment, SameOutside, overwritten, bytes_after, LeftBy, changes, output, taken, IsHistory, Printed}
use Rattle.newt_host.specs.Outside.{printed}
use Rattle.newt_host.proofs.Histories.{history-length}
use Rattle.newt_host.proofs.Printing.{changes-printed, output-printed}
use Rattle.newt_host.proofs.Ranges.{length-overwritten, same-overwritten, same-refl, same-widen}
use Rattle.newt_memhost.specs.Happened.{bytes_of, total, after, moment_from, moment_of}
use Rattle.newt_memhost.specs.Images.{FitsIn, HasPast, IsUpTo, torn_after, whole_after}
use Rattle.std.proofs.lemmas.Option.{slice_get_read, slice_get_past}
use Rattle.newt_memhost.specs.Past.{before, call_at, chosen, picked, printed_by, taken_by, torn, within}
use Rattle.newt_memhost.specs.Cards.{IsTold, Stands, StandsAs}
use Rattle.newt_memhost.specs.declared.card.Card.{Card}
use Rattle.newt_memhost.specs.declared.happened.Happened.{Happened}
use Rattle.newt_memhost.specs.declared.happened.Happened.TheVariants.{Attach, Take, Print, Read, Write, Sync}
use Rattle.newt_memhost.specs.declared.past.Pick.{Pick}
use Rattle.newt_memhost.specs.declared.past.Pick.TheVariants.{Old, New, Half, Fill}

-- one log after another
pub moment-append : (m : Moment) (first second : List Happened) (store : List ℕ) → moment_from m (first ++ second) store ≡ moment_from (moment_from m first store) second (drop (total first) store)
moment-append m [] second store = refl
moment-append m (h ∷ first) second store =
    moment-append (after h (take (bytes_of h) store) m) first second (drop (bytes_of h) store)
    ∙ ap (λ (l : List ℕ). moment_from (moment_from (after h (take (bytes_of h) store) m) first (drop (bytes_of h) store)) second l) (drop-drop (total first) (bytes_of h) store)

pub total-append : (first second : List Happened) → total (first ++ second) ≡ total first + total second
total-append [] second = omega arith
total-append (h ∷ first) second = let rest = total-append first second in omega (arith, rest)

-- every choice keeps the length, and lies within the range
length_chosen : (pick : Pick) (at : ℕ) (now left : List ℕ) → at + length now ≤ length left → length (chosen pick at now left) ≡ length left
length_chosen Old at now left fits = refl
length_chosen New at now left fits = length-overwritten left at now fits
length_chosen Half at now left fits = length-overwritten left at (take (length now / 2) now) (omega (arith, fits, length-take (length now / 2) now))
length_chosen (Fill byte) at now left fits = length-overwritten left at (replicate (length now) byte) (omega (arith, fits, length-replicate (length now) byte))

within_range : (at : ℕ) (bytes now left : List ℕ) → at + length now ≤ length left → length bytes ≤ length now → SameOutside at (length now) left (overwritten left at bytes)
within_range at bytes now left fits low =
    let inside : at + length bytes ≤ length left = omega (arith, fits, low) in
    same-widen at (length bytes) at (length now) (same-overwritten left at bytes inside) (omega arith) (omega (arith, low))

chosen-same : (pick : Pick) (at : ℕ) (now left : List ℕ) → at + length now ≤ length left → SameOutside at (length now) left (chosen pick at now left)
chosen-same Old at now left fits = same-refl at (length now) left
chosen-same New at now left fits = same-overwritten left at now fits
chosen-same Half at now left fits = within_range at (take (length now / 2) now) now left fits (omega (arith, length-take (length now / 2) now))
chosen-same (Fill byte) at now left fits = within_range at (replicate (length now) byte) now left fits (omega (arith, length-replicate (length now) byte))

pub picked-length : (pick : Pick) (size : ℕ) (done : List Change) → IsHistory size done → length (picked pick done) ≡ size
picked-length pick size [] h = absurd h
picked-length pick size (Attached bytes ∷ done) h = h.0
picked-length pick size (Wrote at now ∷ done) h =
    let same = picked-length pick size done h.0 in
    length_chosen pick at now (picked pick done) (omega (arith, same, h.1)) ∙ same
picked-length pick size (Synced ∷ done) h = history-length size done h

-- what a pick chooses is one of what a crash may leave
pub picked-leaves : (pick : Pick) (size : ℕ) (done : List Change) → IsHistory size done → LeftBy done (picked pick done)
picked-leaves pick size [] h = absurd h
picked-leaves pick size (Attached bytes ∷ done) h = refl
picked-leaves pick size (Wrote at now ∷ done) h =
    let same = picked-length pick size done h.0 in
    (picked pick done, picked-leaves pick size done h.0, chosen-same pick at now (picked pick done) (omega (arith, same, h.1)))
picked-leaves pick size (Synced ∷ done) h = refl

-- a history that goes on was one before, or had not begun
older_one : (b : Bool) (size : ℕ) (change : Change) (done : List Change) → (length (cond b (change ∷ done) done) ≡ 0) ⊎ IsHistory size (cond b (change ∷ done) done) → (length done ≡ 0) ⊎ IsHistory size done
older_one false size change done h = h
older_one true size (Attached bytes) done (inl none) = absurd (omega (arith, none))
older_one true size (Attached bytes) done (inr h) = inl h.1
older_one true size (Wrote at now) done (inl none) = absurd (omega (arith, none))
older_one true size (Wrote at now) done (inr h) = inr h.0
older_one true size Synced done (inl none) = absurd (omega (arith, none))
older_one true size Synced done (inr h) = inr h

older_after : (size unit : ℕ) (h : Happened) (bytes : List ℕ) (m : Moment) → (length (changes unit (after h bytes m)) ≡ 0) ⊎ IsHistory size (changes unit (after h bytes m)) → (length (changes unit m) ≡ 0) ⊎ IsHistory size (changes unit m)
older_after size unit (Attach u first) bytes m old = older_one (eqb u unit) size (Attached first.items) (changes unit m) old
older_after size unit (Take None) bytes m old = old
older_after size unit (Take (Some n)) bytes m old = old
older_after size unit (Print n) bytes m old = subst (λ (done : List Change). (length done ≡ 0) ⊎ IsHistory size done) (changes-printed unit bytes m) old
older_after size unit (Read u) bytes m old = old
older_after size unit (Write u at n) bytes m old = older_one (eqb u unit) size (Wrote at bytes) (changes unit m) old
older_after size unit (Sync u true) bytes m old = older_one (eqb u unit) size Synced (changes unit m) old
older_after size unit (Sync u false) bytes m old = old

pub older : (unit size : ℕ) (log : List Happened) (store : List ℕ) (m : Moment) → (length (changes unit (moment_from m log store)) ≡ 0) ⊎ IsHistory size (changes unit (moment_from m log store)) → (length (changes unit m) ≡ 0) ⊎ IsHistory size (changes unit m)
older unit size [] store m h = h
older unit size (e ∷ log) store m h = older_after size unit e (take (bytes_of e) store) m (older unit size log (drop (bytes_of e) store) (after e (take (bytes_of e) store) m) h)

whole_one : (b : Bool) (change : Change) (next whole : List ℕ) (done : List Change) → next ≡ bytes_after (change ∷ done) → whole ≡ bytes_after done → cond b next whole ≡ bytes_after (cond b (change ∷ done) done)
whole_one true change next whole done is was = is
whole_one false change next whole done is was = was

synced_one : (b : Bool) (whole : List ℕ) (done : List Change) → whole ≡ bytes_after done → whole ≡ bytes_after (cond b (Synced ∷ done) done)
synced_one true whole done was = was
synced_one false whole done was = was

pub whole-after : (unit : ℕ) (h : Happened) (bytes : List ℕ) (m : Moment) (whole : List ℕ) → whole ≡ bytes_after (changes unit m) → whole_after unit h bytes whole ≡ bytes_after (changes unit (after h bytes m))
whole-after unit (Attach u first) bytes m whole was = whole_one (eqb u unit) (Attached first.items) first.items whole (changes unit m) refl was
whole-after unit (Take None) bytes m whole was = was
whole-after unit (Take (Some n)) bytes m whole was = was
whole-after unit (Print n) bytes m whole was = was ∙ sym (ap bytes_after (changes-printed unit bytes m))
whole-after unit (Read u) bytes m whole was = was
whole-after unit (Write u at n) bytes m whole was = whole_one (eqb u unit) (Wrote at bytes) (overwritten whole at bytes) whole (changes unit m) (ap (λ (l : List ℕ). overwritten l at bytes) was) was
whole-after unit (Sync u true) bytes m whole was = synced_one (eqb u unit) whole (changes unit m) was
whole-after unit (Sync u false) bytes m whole was = was

torn_one : (b : Bool) (pick : Pick) (change : Change) (next torn : List ℕ) (done : List Change) → next ≡ picked pick (change ∷ done) → torn ≡ picked pick done → cond b next torn ≡ picked pick (cond b (change ∷ done) done)
torn_one true pick change next torn done is was = is
torn_one false pick change next torn done is was = was

pub torn-after : (unit : ℕ) (pick : Pick) (h : Happened) (bytes : List ℕ) (m : Moment) (whole torn : List ℕ) → whole ≡ bytes_after (changes unit m) → torn ≡ picked pick (changes unit m)
    → torn_after unit pick h bytes whole torn ≡ picked pick (changes unit (after h bytes m))
torn-after unit pick (Attach u first) bytes m whole torn was left = torn_one (eqb u unit) pick (Attached first.items) first.items torn (changes unit m) refl left
torn-after unit pick (Take None) bytes m whole torn was left = left
torn-after unit pick (Take (Some n)) bytes m whole torn was left = left
torn-after unit pick (Print n) bytes m whole torn was left = left ∙ sym (ap (picked pick) (changes-printed unit bytes m))
torn-after unit pick (Read u) bytes m whole torn was left = left
torn-after unit pick (Write u at n) bytes m whole torn was left = torn_one (eqb u unit) pick (Wrote at bytes) (chosen pick at bytes torn) torn (changes unit m) (ap (λ (l : List ℕ). chosen pick at bytes l) left) left
torn-after unit pick (Sync u true) bytes m whole torn was left = torn_one (eqb u unit) pick Synced whole torn (changes unit m) was left
torn-after unit pick (Sync u false) bytes m whole torn was left = left

-- a range that was written lay inside of any image of as many bytes
range_fits : (b : Bool) (size at : ℕ) (bytes image : List ℕ) (done : List Change) → b ≡ true → (length (cond b (Wrote at bytes ∷ done) done) ≡ 0) ⊎ IsHistory size (cond b (Wrote at bytes ∷ done) done)
    → (IsHistory size done → length image ≡ size) → at + length bytes ≤ length image
range_fits true size at bytes image done so (inl none) sized = absurd (omega (arith, none))
range_fits true size at bytes image done so (inr h) sized = let same = sized h.0 in omega (arith, same, h.1)
range_fits false size at bytes image done so h sized = absurd (false≢true so)

pub fits-in : (unit size : ℕ) (h : Happened) (bytes image : List ℕ) (m : Moment) → (length (changes unit (after h bytes m)) ≡ 0) ⊎ IsHistory size (changes unit (after h bytes m)) → (IsHistory size (changes unit m) → length image ≡ size)
    → FitsIn unit h bytes image
fits-in unit size (Attach u first) bytes image m past sized = tt
fits-in unit size (Take o) bytes image m past sized = tt
fits-in unit size (Print n) bytes image m past sized = tt
fits-in unit size (Read u) bytes image m past sized = tt
fits-in unit size (Write u at n) bytes image m past sized = λ same. range_fits (eqb u unit) size at bytes image (changes unit m) (eq-eqb u unit same) past sized
fits-in unit size (Sync u done) bytes image m past sized = tt

none_same : (pick : Pick) (done : List Change) → length done ≡ 0 → length (picked pick done) ≡ length (bytes_after done)
none_same pick [] none = refl
none_same pick (change ∷ done) none = absurd (omega (arith, none))

pub same-sizes : (pick : Pick) (size : ℕ) (done : List Change) → (length done ≡ 0) ⊎ IsHistory size done → length (picked pick done) ≡ length (bytes_after done)
same-sizes pick size done (inl none) = none_same pick done none
same-sizes pick size done (inr h) = picked-length pick size done h ∙ sym (history-length size done h)

pub out-after : (h : Happened) (bytes : List ℕ) (m : Moment) → length bytes ≡ bytes_of h → length (output (after h bytes m)) ≡ length (output m) + printed_by h
out-after (Attach u first) bytes m its = omega arith
out-after (Take None) bytes m its = omega arith
out-after (Take (Some n)) bytes m its = omega arith
out-after (Print n) bytes m its = omega (arith, its, ap length (output-printed bytes m), length-append (output m) bytes)
out-after (Read u) bytes m its = omega arith
out-after (Write u at n) bytes m its = omega arith
out-after (Sync u true) bytes m its = omega arith
out-after (Sync u false) bytes m its = omega arith

pub printed-le : (h : Happened) → printed_by h ≤ bytes_of h
printed-le (Attach u first) = omega arith
printed-le (Take o) = omega arith
printed-le (Print n) = omega arith
printed-le (Read u) = omega arith
printed-le (Write u at n) = omega arith
printed-le (Sync u done) = omega arith

-- a history by the end of a log was one at each place of it, or had not begun there
pub past-at : (log : List Happened) (store : List ℕ) (i unit size : ℕ) → (length (changes unit (moment_of log store)) ≡ 0) ⊎ IsHistory size (changes unit (moment_of log store))
    → (length (changes unit (moment_of (take i log) store)) ≡ 0) ⊎ IsHistory size (changes unit (moment_of (take i log) store))
past-at log store i unit size past =
    let whole : moment_of log store ≡ moment_from (moment_of (take i log) store) (drop i log) (drop (total (take i log)) store) =
    ap (λ (l : List Happened). moment_of l store) (sym (take-append-drop i log)) ∙ moment-append [] (take i log) (drop i log) store in
    older unit size (drop i log) (drop (total (take i log)) store) (moment_of (take i log) store) (subst (λ (m : Moment). (length (changes unit m) ≡ 0) ⊎ IsHistory size (changes unit m)) whole past)

-- the log up to a place, and the entry there
module _ (log : List Happened) (store : List ℕ) (i : ℕ) (h : Happened) (low : i < length log) (is : h ≡ get_or log i h) (stored : total log ≤ length store) where
  up_to : take (i + 1) log ≡ take i log ++ h ∷ []
  up_to = take_more log i h low ∙ ap (λ (e : Happened). take i log ++ e ∷ []) (sym is)

  pub used-more : total (take (i + 1) log) ≡ total (take i log) + bytes_of h
  used-more = ap total up_to ∙ total-append (take i log) (h ∷ []) ∙ omega arith

  pub used-fits : total (take i log) + bytes_of h ≤ length store
  used-fits = omega (arith, used-more, sym (ap total (take-append-drop (i + 1) log)) ∙ total-append (take (i + 1) log) (drop (i + 1) log), stored)

  pub moment-more : moment_of (take (i + 1) log) store ≡ after h (take (bytes_of h) (drop (total (take i log)) store)) (moment_of (take i log) store)
  moment-more = ap (λ (l : List Happened). moment_of l store) up_to ∙ moment-append [] (take i log) (h ∷ []) store

  -- one turn of the loop
  module _ (unit used n : ℕ) (pick : Pick) (whole torn : List ℕ) (used_is : used ≡ total (take i log)) (n_is : n ≡ bytes_of h) (up_to_here : IsUpTo unit pick (moment_of (take i log) store) whole torn) where
    pub its : length (take ((used + n) - used) (drop used store)) ≡ bytes_of h
    its =
        let back : (used + n) - used ≡ n = omega arith in
        let fits = used-fits in
        omega (arith, length-take ((used + n) - used) (drop used store), length-drop used store, back, n_is, used_is, fits)

    next : moment_of (take (i + 1) log) store ≡ after h (take ((used + n) - used) (drop used store)) (moment_of (take i log) store)
    next =
        let back : bytes_of h ≡ (used + n) - used = omega (arith, n_is) in
        moment-more ∙ ap (λ (k : ℕ). after h (take k (drop (total (take i log)) store)) (moment_of (take i log) store)) back
        ∙ ap (λ (k : ℕ). after h (take ((used + n) - used) (drop k store)) (moment_of (take i log) store)) (sym used_is)

    pub next-up_to : (new_whole new_torn : List ℕ) → new_whole ≡ whole_after unit h (take ((used + n) - used) (drop used store)) whole → new_torn ≡ torn_after unit pick h (take ((used + n) - used) (drop used store)) whole torn
        → IsUpTo unit pick (moment_of (take (i + 1) log) store) new_whole new_torn
    next-up_to new_whole new_torn whole_is torn_is = record {
      whole_is = whole_is ∙ whole-after unit h (take ((used + n) - used) (drop used store)) (moment_of (take i log) store) whole up_to_here.whole_is ∙ ap (λ (k : Moment). bytes_after (changes unit k)) (sym next);
      torn_is = torn_is ∙ torn-after unit pick h (take ((used + n) - used) (drop used store)) (moment_of (take i log) store) whole torn up_to_here.whole_is up_to_here.torn_is ∙ ap (λ (k : Moment). picked pick (changes unit k)) (sym next);
    }

    pub next-out : length (output (moment_of (take (i + 1) log) store)) ≡ length (output (moment_of (take i log) store)) + printed_by h
    next-out = ap (λ (k : Moment). length (output k)) next ∙ out-after h (take ((used + n) - used) (drop used store)) (moment_of (take i log) store) its

    module _ (size : ℕ) (past : (length (changes unit (moment_of log store)) ≡ 0) ⊎ IsHistory size (changes unit (moment_of log store))) where
      past_next : (length (changes unit (after h (take ((used + n) - used) (drop used store)) (moment_of (take i log) store))) ≡ 0) ⊎ IsHistory size (changes unit (after h (take ((used + n) - used) (drop used store)) (moment_of (take i log) store)))
      past_next = subst (λ (k : Moment). (length (changes unit k) ≡ 0) ⊎ IsHistory size (changes unit k)) next (past-at log store (i + 1) unit size past)

      pub whole-fits : FitsIn unit h (take ((used + n) - used) (drop used store)) whole
      whole-fits = fits-in unit size h _ whole (moment_of (take i log) store) past_next (λ hist. ap length up_to_here.whole_is ∙ history-length size (changes unit (moment_of (take i log) store)) hist)

      pub torn-fits : FitsIn unit h (take ((used + n) - used) (drop used store)) torn
      torn-fits = fits-in unit size h _ torn (moment_of (take i log) store) past_next (λ hist. ap length up_to_here.torn_is ∙ picked-length pick size (changes unit (moment_of (take i log) store)) hist)

      pub sizes-same : length torn ≡ length whole
      sizes-same = ap length up_to_here.torn_is ∙ same-sizes pick size (changes unit (moment_of (take i log) store)) (past-at log store i unit size past) ∙ sym (ap length up_to_here.whole_is)

torn_is_one : (h : Happened) → (torn (Some h) ≡ []) ⊎ (torn (Some h) ≡ h ∷ [])
torn_is_one (Attach u first) = inl refl
torn_is_one (Take o) = inr refl
torn_is_one (Print n) = inr refl
torn_is_one (Read u) = inr refl
torn_is_one (Write u at n) = inr refl
torn_is_one (Sync u done) = inl refl

-- how far a crash within a call has the log after it
pub within-there : (log : List Happened) (call place n : ℕ) (h : Happened) → take place log ≡ before call log → slice_get log place ≡ call_at call log → place < length log → h ≡ get_or log place h → n ≡ length (torn (Some h))
    → (take (place + n) log ≡ within call log) × (place + n ≤ length log)
within-there log call place n h front there low is n_is =
    let at : call_at call log ≡ Some h = sym there ∙ slice_get_read log (length log) place h refl low is in
    elim (torn_is_one h) [
      | inl none ↦
          let zero_is : place + n ≡ place = omega (arith, n_is, ap length none) in
          (ap (λ (k : ℕ). take k log) zero_is ∙ front ∙ sym (append-nil (before call log)) ∙ ap (λ (l : List Happened). before call log ++ l) (sym (ap torn at ∙ none)), omega (arith, zero_is, low))
      | inr one ↦
          let one_is : place + n ≡ place + 1 = omega (arith, n_is, ap length one) in (
            ap (λ (k : ℕ). take k log) one_is ∙ take_more log place h low ∙ ap (λ (e : Happened). take place log ++ e ∷ []) (sym is) ∙ ap (λ (l : List Happened). l ++ h ∷ []) front
                ∙ ap (λ (l : List Happened). before call log ++ l) (sym (ap torn at ∙ one)),
            omega (arith, one_is, low),
          )
    ]

pub within-past : (log : List Happened) (call place : ℕ) → take place log ≡ before call log → slice_get log place ≡ call_at call log → length log ≤ place → take place log ≡ within call log
within-past log call place front there past =
    front ∙ sym (append-nil (before call log)) ∙ ap (λ (l : List Happened). before call log ++ l) (sym (ap torn (sym there ∙ slice_get_past log place past)))

-- the length of the output at the end of a log
pub out-total : (m : Moment) (log : List Happened) (store : List ℕ) → total log ≤ length store → length (output (moment_from m log store)) ≡ length (output m) + sum_by printed_by log
out-total m [] store fits = omega arith
out-total m (h ∷ log) store fits =
    let its : length (take (bytes_of h) store) ≡ bytes_of h = omega (arith, length-take (bytes_of h) store, fits) in
    let rest = out-total (after h (take (bytes_of h) store) m) log (drop (bytes_of h) store) (omega (arith, fits, length-drop (bytes_of h) store)) in
    let one = out-after h (take (bytes_of h) store) m its in
    let sums = sum_by-cons printed_by h log in
    omega (arith, rest, one, sums)

pub printed-total : (log : List Happened) → sum_by printed_by log ≤ total log
printed-total [] = omega arith
printed-total (h ∷ log) = let one = printed-le h in let rest = printed-total log in let sums = sum_by-cons printed_by h log in omega (arith, one, rest, sums)

-- the same of the input that was taken
taken-printed : (bytes : List ℕ) (m : Moment) → taken (printed bytes m) ≡ taken m
taken-printed [] m = refl
taken-printed (byte ∷ bytes) m = taken-printed bytes (Printed byte ∷ m)

taken-after : (h : Happened) (bytes : List ℕ) (m : Moment) → length bytes ≡ bytes_of h → length (taken (after h bytes m)) ≡ length (taken m) + taken_by h
taken-after (Attach u first) bytes m its = omega arith
taken-after (Take None) bytes m its = omega arith
taken-after (Take (Some n)) bytes m its = omega (arith, its, length-append (taken m) bytes)
taken-after (Print n) bytes m its = omega (arith, ap length (taken-printed bytes m))
taken-after (Read u) bytes m its = omega arith
taken-after (Write u at n) bytes m its = omega arith
taken-after (Sync u true) bytes m its = omega arith
taken-after (Sync u false) bytes m its = omega arith

taken-le : (h : Happened) → taken_by h ≤ bytes_of h
taken-le (Attach u first) = omega arith
taken-le (Take None) = omega arith
taken-le (Take (Some n)) = omega arith
taken-le (Print n) = omega arith
taken-le (Read u) = omega arith
taken-le (Write u at n) = omega arith
taken-le (Sync u done) = omega arith

pub taken-total : (m : Moment) (log : List Happened) (store : List ℕ) → total log ≤ length store → length (taken (moment_from m log store)) ≡ length (taken m) + sum_by taken_by log
taken-total m [] store fits = omega arith
taken-total m (h ∷ log) store fits =
    let its : length (take (bytes_of h) store) ≡ bytes_of h = omega (arith, length-take (bytes_of h) store, fits) in
    let rest = taken-total (after h (take (bytes_of h) store) m) log (drop (bytes_of h) store) (omega (arith, fits, length-drop (bytes_of h) store)) in
    let one = taken-after h (take (bytes_of h) store) m its in
    let sums = sum_by-cons taken_by h log in
    omega (arith, rest, one, sums)

pub taken-fits : (log : List Happened) → sum_by taken_by log ≤ total log
taken-fits [] = omega arith
taken-fits (h ∷ log) = let one = taken-le h in let rest = taken-fits log in let sums = sum_by-cons taken_by h log in omega (arith, one, rest, sums)

pub total-take : (log : List Happened) (n : ℕ) → total (take n log) ≤ total log
total-take log n = omega (arith, sym (ap total (take-append-drop n log)) ∙ total-append (take n log) (drop n log))

-- a unit that holds what has happened to it has a history, or nothing has happened to it
pub has-past : (cards : List Card) (unit : ℕ) (m : Moment) → IsTold cards m → HasPast unit m
has-past cards unit m told = of_card (slice_get cards unit) (told.each unit)
  where
    of_as : (b : Bool) (c : Card) → StandsAs b c (changes unit m) → HasPast unit m
    of_as true c stands = (length c.first.items, inr stands.1)
    of_as false c stands = (0, inl stands.0)

    of_card : (o : Option Card) → Stands o (changes unit m) → HasPast unit m
    of_card None stands = (0, inl stands)
    of_card (Some c) stands = of_as c.attached c stands

-- what a pick chooses there is one of what a crash may leave
pub leaves-within : (pick : Pick) (unit : ℕ) (m : Moment) (image : List ℕ) → HasPast unit m → image ≡ picked pick (changes unit m) → 0 < length (changes unit m) → LeftBy (changes unit m) image
leaves-within pick unit m image (size, inl none) is some = absurd (omega (arith, none, some))
leaves-within pick unit m image (size, inr h) is some = subst (λ (l : List ℕ). LeftBy (changes unit m) l) (sym is) (picked-leaves pick size (changes unit m) h)
