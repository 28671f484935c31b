-- What follows of a device that has gone through a history.
use Rattle.std.proofs.Common.{◌≡◌, ℕ, ◌+◌, ◌≤◌, Bool, true, false, cond, eqb, List, [], ◌∷◌, length, Option, Some, None, IsSome, refl, sym, ◌∙◌, ap, subst, arith}
use Rattle.std.proofs.lemmas.Bool.Decides.{nat_tests}
use Rattle.newt_host.specs.Meanings.{Begins}
use Rattle.newt_host.specs.Moments.{Change, Attached, Wrote, Synced, On, Printed, Took, Moment, bytes_after, LeftBy, changes, image, IsHistory, attached_at}
use Rattle.newt_host.specs.Outside.{Outside, Attaches, printed}
use Rattle.newt_host.proofs.Moments.{changes-same}
use Rattle.newt_host.proofs.Ranges.{length-overwritten, same-overwritten}

-- it has as many bytes as at first
pub history-length : (size : ℕ) (done : List Change) → IsHistory size done → length (bytes_after done) ≡ size
history-length size [] h = absurd h
history-length size (Attached bytes ∷ before) h = h.0
history-length size (Wrote at now ∷ before) h =
    let same = history-length size before h.0 in
    length-overwritten (bytes_after before) at now (omega (arith, same, h.1)) ∙ same
history-length size (Synced ∷ before) h = history-length size before h

-- what reads is one of what a crash may leave
pub history-leaves : (size : ℕ) (done : List Change) → IsHistory size done → LeftBy done (bytes_after done)
history-leaves size [] h = absurd h
history-leaves size (Attached bytes ∷ before) h = refl
history-leaves size (Wrote at now ∷ before) h =
    let same = history-length size before h.0 in
    (bytes_after before, history-leaves size before h.0, same-overwritten (bytes_after before) at now (omega (arith, same, h.1)))
history-leaves size (Synced ∷ before) h = refl

wrote_more : (b : Bool) (size at : ℕ) (now : List ℕ) (before : List Change) → IsHistory size (cond b (Wrote at now ∷ before) before) → IsHistory size before
wrote_more true size at now before h = h.0
wrote_more false size at now before h = h

synced_more : (b : Bool) (size : ℕ) (before : List Change) → IsHistory size (cond b (Synced ∷ before) before) → IsHistory size before
synced_more true size before h = h
synced_more false size before h = h

attached_more : (b : Bool) (size t : ℕ) (bytes : List ℕ) (before : List Change) (o : Option ℕ) → (IsHistory size before → IsSome o) → IsHistory size (cond b (Attached bytes ∷ before) before) → IsSome (cond b (Some t) o)
attached_more true size t bytes before o some h = refl
attached_more false size t bytes before o some h = some h

-- it was attached at some moment
pub history-attached : (size unit : ℕ) (m : Moment) → IsHistory size (changes unit m) → IsSome (attached_at unit m)
history-attached size unit [] h = absurd h
history-attached size unit (On u (Attached bytes) ∷ before) h =
    attached_more (eqb u unit) size (length before + 1) bytes (changes unit before) (attached_at unit before) (history-attached size unit before) h
history-attached size unit (On u (Wrote at now) ∷ before) h = history-attached size unit before (wrote_more (eqb u unit) size at now (changes unit before) h)
history-attached size unit (On u Synced ∷ before) h = history-attached size unit before (synced_more (eqb u unit) size (changes unit before) h)
history-attached size unit (Printed byte ∷ before) h = history-attached size unit before h
history-attached size unit (Took bytes ∷ before) h = history-attached size unit before h

no_change : (b : Bool) (change : Change) (before : List Change) → cond b (change ∷ before) before ≡ [] → (b ≡ false) × (before ≡ [])
no_change true change before h = absurd (cc)
no_change false change before h = (refl, h)

-- and where nothing has happened to it, at none
pub untouched-attached : (unit : ℕ) (m : Moment) → changes unit m ≡ [] → attached_at unit m ≡ None
untouched-attached unit [] none = refl
untouched-attached unit (On u (Attached bytes) ∷ before) none =
    let other = no_change (eqb u unit) (Attached bytes) (changes unit before) none in
    ap (λ (b : Bool). cond b (Some (length before + 1)) (attached_at unit before)) other.0 ∙ untouched-attached unit before other.1
untouched-attached unit (On u (Wrote at now) ∷ before) none = untouched-attached unit before (no_change (eqb u unit) (Wrote at now) (changes unit before) none).1
untouched-attached unit (On u Synced ∷ before) none = untouched-attached unit before (no_change (eqb u unit) Synced (changes unit before) none).1
untouched-attached unit (Printed byte ∷ before) none = untouched-attached unit before none
untouched-attached unit (Took bytes ∷ before) none = untouched-attached unit before none

one_or_other : (b : Bool) (n t : ℕ) (o : Option ℕ) (most : ℕ) → n ≤ most → (o ≡ Some t → t ≤ most) → cond b (Some n) o ≡ Some t → t ≤ most
one_or_other true n t o most low else is = let same : n ≡ t = cc in omega (arith, same, low)
one_or_other false n t o most low else is = else is

-- the moment of an attach has come
pub attached-early : (unit t : ℕ) (m : Moment) → attached_at unit m ≡ Some t → t ≤ length m
attached-early unit t [] is = absurd (cc)
attached-early unit t (On u (Attached bytes) ∷ before) is =
    let early : attached_at unit before ≡ Some t → t ≤ length before + 1 = λ at. let low = attached-early unit t before at in omega (arith, low) in
    let low = one_or_other (eqb u unit) (length before + 1) t (attached_at unit before) (length before + 1) (omega arith) early is in
    omega (arith, low)
attached-early unit t (On u (Wrote at now) ∷ before) is = let low = attached-early unit t before is in omega (arith, low)
attached-early unit t (On u Synced ∷ before) is = let low = attached-early unit t before is in omega (arith, low)
attached-early unit t (Printed byte ∷ before) is = let low = attached-early unit t before is in omega (arith, low)
attached-early unit t (Took bytes ∷ before) is = let low = attached-early unit t before is in omega (arith, low)

pub attached-same : (unit : ℕ) (bytes : List ℕ) (m : Moment) → attached_at unit (On unit (Attached bytes) ∷ m) ≡ Some (length m + 1)
attached-same unit bytes m = grind (arith, nat_tests)

pub attached-printed : (unit : ℕ) (bytes : List ℕ) (m : Moment) → attached_at unit (printed bytes m) ≡ attached_at unit m
attached-printed unit [] m = refl
attached-printed unit (byte ∷ bytes) m = attached-printed unit bytes (Printed byte ∷ m)

-- after an attach that answered true
pub begins : (unit : ℕ) (name : List ℕ) (old new : Outside) → Attaches true unit name old new → Begins unit name old new
begins unit name old new a =
    let at = a.moment refl in
    let image_is : image unit new.now ≡ at.0 = ap (λ (m : Moment). image unit m) at.2 ∙ ap bytes_after (changes-same unit (Attached at.0) old.now) in
    record {
      image = at.1 ∙ ap Some (sym image_is);
      durable = λ left may. (let is : LeftBy (Attached at.0 ∷ changes unit old.now) left = subst (λ (cs : List Change). LeftBy cs left) (ap (λ (m : Moment). changes unit m) at.2 ∙ changes-same unit (Attached at.0) old.now) may in is ∙ sym image_is);
      begins = ap (λ (m : Moment). attached_at unit m) at.2 ∙ attached-same unit at.0 old.now ∙ ap Some (omega (arith, ap length at.2));
    }
