-- A restoring that is refused, and one that is not.
use Rattle.std.proofs.Common.{◌≡◌, refl, sym, ◌∙◌, ap, subst, ℕ, ◌+◌, ◌*◌, ◌≤◌, ◌/◌, Bool, true, false, not, nat_lt, ◌||◌, List, [], ◌∷◌, length, Option, Some, None, is_some, Result, Ok, Err, IfOk, OnOk, IsErr, IsErrAnd, IsTrue, arith}
use Rattle.std.specs.Prelude.{option_map}
use Rattle.newt_base.specs.Refusals.{first_of}
use Rattle.newt_base.specs.declared.Refusal.{Refusal}
use Rattle.newt_base.specs.declared.Refusal.TheVariants as refusals
use Rattle.newt_graph.specs.Graph.{RawGraph}
use Rattle.newt_host.specs.Moments.{Anything, Leaves, Moment, here}
use Rattle.newt_host.specs.Outside.{Outside, NoFault, OnlyReads, Spends, Wears}
use Rattle.newt_host.proofs.Outside.{NoFault-append, NoFault-refl, OnlyReads-refl, Spends-refl, Spends-widen, Touches-append, Touches-refl, Wears-append, Wears-refl, Wears-widen}
use Rattle.newt_nsof_read.specs.Reading.{decoded}
use Rattle.newt_nsof_read.specs.declared.fault.NsofFault.{NsofFault}
use Rattle.newt_nsof_read.specs.declared.fault.NsofFault.TheVariants as faults
use Rattle.newt_backup.proofs.One.{one-store}
use Rattle.newt_pagebook.specs.Book.{format_bytes}
use Rattle.newt_pagebook.specs.Stops.{StopsAt}
use Rattle.newt_pagebook.specs.declared.book.Stop.{Stop}
use Rattle.newt_pagebook.specs.declared.book.Stop.TheVariants.{Memory}
use Rattle.newt_spec_image.specs.Records.{bank_blocks}
use Rattle.newt_spec_store.specs.Cost.{cost}
use Rattle.newt_spec_store.specs.OfImage.{blocks_of}
use Rattle.newt_spec_store.specs.Store.{Store}
use Rattle.newt_spec_store.specs.Valid.{fits}
use Rattle.newt_store.specs.Calls.{FormatsUnit}
use Rattle.newt_store_catalog.specs.Readable.{readable}
use Rattle.newt_store_backup.specs.Restored.{IsAsked, IsDone, IsLeft, IsRestored, RestoresStore, Restores, refused_on, restored, restored_text, unless_refused}
use Rattle.newt_host.specs.Meanings.{device_on}
use Rattle.newt_store_catalog.specs.Reading.{ReadEnds}
use Rattle.newt_store_catalog.proofs.Exits.{stops-on}

-- ---- which refusal

-- the image of a unit that has a device
pub device-there : {A : Type 0} (image : List ℕ) (card : Option A) → is_some card ≡ true → option_map (λ (name : A). image) card ≡ Some image
device-there image None some = absurd (cc)
device-there image (Some name) some = refl

-- a refusal by the outcomes of the tests
abbrev pub row : (few many found fits : Bool) → Option Refusal
row few many found fits = first_of ((refusals.Blocks, few || many) ∷ (refusals.Store, found) ∷ (refusals.Full, not fits) ∷ [])

-- where only the last test is left
pub by-fit : (s : Store) (image : List ℕ) (blocks : ℕ) (found fit : Bool) → length image ≡ blocks * 4096 → nat_lt blocks 13 ≡ false → nat_lt 4099 blocks ≡ false
    → found ≡ is_some (readable image) → found ≡ false → fit ≡ fits blocks s → refused_on s (Some image) ≡ row false false false fit
by-fit s image blocks found fit size few many is none fits_is =
    let same : blocks_of image ≡ blocks = omega (arith, size) in
    ap (λ (n : ℕ). row (nat_lt n 13) (nat_lt 4099 n) (is_some (readable image)) (fits n s)) same
    ∙ ap (λ (few : Bool). row few (nat_lt 4099 blocks) (is_some (readable image)) (fits blocks s)) few
    ∙ ap (λ (many : Bool). row false many (is_some (readable image)) (fits blocks s)) many
    ∙ ap (λ (found : Bool). row false false found (fits blocks s)) (sym is ∙ none)
    ∙ ap (λ (fit : Bool). row false false false fit) (sym fits_is)

pub full-refused : (s : Store) (image : List ℕ) (blocks : ℕ) (found fit : Bool) → length image ≡ blocks * 4096 → nat_lt blocks 13 ≡ false → nat_lt 4099 blocks ≡ false
    → found ≡ is_some (readable image) → found ≡ false → fit ≡ fits blocks s → fit ≡ false → Some refusals.Full ≡ refused_on s (Some image)
full-refused s image blocks found fit size few many is none fits_is misfit =
    sym (by-fit s image blocks found fit size few many is none fits_is ∙ ap (λ (fit : Bool). row false false false fit) misfit)

pub none-refused : (s : Store) (image : List ℕ) (blocks : ℕ) (found fit : Bool) → length image ≡ blocks * 4096 → nat_lt blocks 13 ≡ false → nat_lt 4099 blocks ≡ false
    → found ≡ is_some (readable image) → found ≡ false → fit ≡ fits blocks s → fit ≡ true → None ≡ refused_on s (Some image)
none-refused s image blocks found fit size few many is none fits_is fitting =
    sym (by-fit s image blocks found fit size few many is none fits_is ∙ ap (λ (fit : Bool). row false false false fit) fitting)

-- a stream asks for one store, or is refused for one reason
pub asked-one : (read : Result RawGraph NsofFault) (one other : Result Store Refusal) → IsAsked read one → IsAsked read other → other ≡ one
asked-one (Ok g) (Ok s) (Ok t) one other = ap Ok (one-store t s other.0 one.0 (other.1 ∙ sym one.1))
asked-one (Ok g) (Ok s) (Err refusal) one other = absurd (other.0 s one.0 one.1)
asked-one (Ok g) (Err refusal) (Ok t) one other = absurd (one.0 t other.0 other.1)
asked-one (Ok g) (Err refusal) (Err reason) one other = ap Err (other.1 ∙ sym one.1)
asked-one (Err faults.Malformed) asked reasked one other = other ∙ sym one
asked-one (Err faults.Compressed) asked reasked one other = other ∙ sym one
asked-one (Err faults.Memory) asked reasked one other = absurd one

-- and for no other store
stores-one : (read : Result RawGraph NsofFault) (s t : Store) → IsAsked read (Ok s) → IsAsked read (Ok t) → s ≡ t
stores-one (Ok g) s t one other = one-store s t one.0 other.0 (one.1 ∙ sym other.1)
stores-one (Err faults.Malformed) s t one other = absurd (cc)
stores-one (Err faults.Compressed) s t one other = absurd (cc)
stores-one (Err faults.Memory) s t one other = absurd one

-- an input and a device have one outcome
pub one-outcome : (input : List ℕ) (device : Option (List ℕ)) (one other : Result Store Refusal) → IsRestored input device one → IsRestored input device other → other ≡ one
one-outcome input device one other first second =
    second.is ∙ ap (λ (a : Result Store Refusal). restored a device) (asked-one (decoded input) first.asked second.asked first.is_asked second.is_asked) ∙ sym first.is

-- a store that is not refused is what a device gets
pub restored-one : (input : List ℕ) (s : Store) (device : Option (List ℕ)) (outcome : Result Store Refusal) → IsAsked (decoded input) (Ok s) → None ≡ refused_on s device → IsRestored input device outcome → outcome ≡ Ok s
restored-one input s device outcome asked none is =
    is.is ∙ ap (λ (a : Result Store Refusal). restored a device) (asked-one (decoded input) (Ok s) is.asked asked is.is_asked) ∙ ap (unless_refused s) (sym none)

-- ---- a unit that is only read

-- what is only read is within any bound
more : (n before after : ℕ) → after ≤ before → after ≤ before + n
more n before after less = omega (arith, less)

wears-none : {unit : ℕ} {before after : Outside} (n k : ℕ) → Wears unit 0 0 before after → Wears unit n k before after
wears-none n k none = Wears-widen 0 0 n k (omega arith) (omega arith) none

wears-then : {unit : ℕ} {before mid after : Outside} (n k : ℕ) → Wears unit 0 0 before mid → Wears unit n k mid after → Wears unit n k before after
wears-then n k none some = Wears-widen (0 + n) (0 + k) n k (omega arith) (omega arith) (Wears-append 0 0 n k none some)

spends-none : (n unit : ℕ) (before : Outside) → Spends unit n 0 before before
spends-none n unit before = Spends-widen 0 0 n 0 (omega arith) (omega arith) (Spends-refl unit before)

-- nothing was said of its store, or it was refused
pub restores-looked : {T : Type 0} {told : Bool} {unit : ℕ} {before after : Outside} (input : List ℕ) (r : Result T Stop) → OnlyReads unit before after → ReadEnds unit before after r → Restores {T = T} told unit input before after r
restores-looked {unit = unit} {before = before} {after = after} input r looks ends = record {
  refused = λ tells outcome is err. looks;
  unchanged = λ same. looks.moment;
  any_moment = λ tells. subst (λ (now : Moment). Leaves unit Anything before.now now) (sym looks.moment) (here (record { others = λ other apart. refl; output = refl; unread = refl; crash = λ left may. tt }));
  once = λ s asked. more (format_bytes (cost s)) (before.programmed unit) (after.programmed unit) looks.programmed;
  wears = wears-none (bank_blocks (before.blocks unit) + 3) 9 looks.wears;
  alone = looks.alone;
  ends = ends;
}

-- ---- a unit that gets its store

-- a store is no refusal
no-refusal : {P : Type 0} (s : Store) → IsErr {T = Store} {E = Refusal} (Ok s) → P
no-refusal s err = absurd (cc)

-- it is not refused, so nothing is claimed of refusals
pub restores-made : {T : Type 0} {told : Bool} {unit : ℕ} {before mid after : Outside} (input : List ℕ) (s : Store) (r : Result T Stop) → OnlyReads unit before mid → NoFault before mid
    → IsAsked (decoded input) (Ok s) → (IsTrue told → None ≡ refused_on s (device_on unit before)) → RestoresStore {T = T} told unit s mid after r → Restores {T = T} told unit input before after r
restores-made {T = T} {told = told} {unit = unit} {before = before} {mid = mid} {after = after} input s r looks free asked none f = record {
  refused = λ tells outcome is err. no-refusal s (subst (λ (o : Result Store Refusal). IsErr o) (restored-one input s (device_on unit before) outcome asked (none tells) is) err);
  unchanged = λ same. f.unchanged same ∙ looks.moment;
  any_moment = λ tells. subst (λ (now : Moment). Leaves unit Anything now after.now) looks.moment (f.any_moment tells);
  once = λ t other.
      let is = stores-one (decoded input) s t asked other in
      looked-once (before.programmed unit) (mid.programmed unit) (after.programmed unit) (format_bytes (cost t)) looks.programmed
      (subst (λ (u : Store). after.programmed unit ≤ mid.programmed unit + format_bytes (cost u)) is f.costs.programmed);
  wears = subst (λ (n : ℕ). Wears unit (bank_blocks n + 3) 9 before after) (looks.alone.cards.blocks unit) (wears-then (bank_blocks (mid.blocks unit) + 3) 9 looks.wears f.wears);
  alone = Touches-append looks.alone f.alone;
  ends = made-ends looks free r f.ends;
}
  where
    looked-once : (a b c n : ℕ) → b ≤ a → c ≤ b + n → c ≤ a + n
    looked-once a b c n first last = omega (arith, first, last)

    made-ends : OnlyReads unit before mid → NoFault before mid → (r : Result T Stop) → ReadEnds unit mid after r → ReadEnds unit before after r
    made-ends looks free (Ok x) ends = record { cause = tt; no_fault = NoFault-append free ends.no_fault }
    made-ends looks free (Err stop) ends = record { cause = stops-on stop after refl looks free ends.cause; no_fault = tt }

-- it has got it
pub restores-ok : {T : Type 0} {told : Bool} {unit : ℕ} {s : Store} {before after : Outside} (x : Unit {0}) (value : T) → FormatsUnit told unit s before after (Ok x) → RestoresStore {T = T} told unit s before after (Ok value)
restores-ok x value f = record {
  left = λ tells. (f.formatted tells, f.durable tells);
  unchanged = λ same. absurd (cc);
  any_moment = f.any_moment;
  costs = f.costs;
  wears = f.wears;
  alone = f.alone;
  ends = record { cause = tt; no_fault = f.ends.no_fault };
}

-- memory ran out before anything happened
pub restores-none : {T : Type 0} {told : Bool} {unit : ℕ} {s : Store} (before : Outside) (r : Result T Stop) → IsErrAnd r (λ stop. stop ≡ Memory) → RestoresStore {T = T} told unit s before before r
restores-none before (Ok x) fails = absurd fails
restores-none {T = T} {told = told} {unit = unit} {s = s} before (Err stop) fails = subst (λ (e : Stop). RestoresStore {T = T} told unit s before before (Err e)) (sym fails) (record {
  left = λ tells. tt;
  unchanged = λ same. refl;
  any_moment = λ tells. here (record { others = λ other apart. refl; output = refl; unread = refl; crash = λ left may. tt });
  costs = spends-none (format_bytes (cost s)) unit before;
  wears = wears-none (bank_blocks (before.blocks unit) + 3) 9 (Wears-refl unit before);
  alone = Touches-refl unit before;
  ends = record { cause = NoFault-refl before; no_fault = tt };
})

-- ---- what is written then

-- an input is no backup
pub done-unasked : {unit : ℕ} {before : Outside} (input : List ℕ) (refusal : Refusal) (text : List ℕ) → IsAsked (decoded input) (Err refusal) → text ≡ restored_text (Err refusal) → IsDone input unit before before text
done-unasked {unit = unit} {before = before} input refusal text asked is = record {
  outcome = Err refusal;
  is_restored = record { asked = Err refusal; is_asked = asked; is = refl };
  text_is = is;
  left = OnlyReads-refl unit before;
}

-- a store is refused
pub done-refused : {unit : ℕ} {before after : Outside} (input : List ℕ) (s : Store) (refusal : Refusal) (text : List ℕ) → IsAsked (decoded input) (Ok s) → Some refusal ≡ refused_on s (device_on unit before)
    → text ≡ restored_text (Err refusal) → OnlyReads unit before after → IsDone input unit before after text
done-refused input s refusal text asked some is looks = record {
  outcome = Err refusal;
  is_restored = record { asked = Ok s; is_asked = asked; is = ap (unless_refused s) some };
  text_is = is;
  left = looks;
}

-- it is made
pub done-made : (unit : ℕ) (before after : Outside) (input : List ℕ) (s : Store) (text : List ℕ) → IsAsked (decoded input) (Ok s) → None ≡ refused_on s (device_on unit before)
    → text ≡ restored_text (Ok s) → IsLeft (Ok s) unit before after → IsDone input unit before after text
done-made unit before after input s text asked none is left = record {
  outcome = Ok s;
  is_restored = record { asked = Ok s; is_asked = asked; is = ap (unless_refused s) none };
  text_is = is;
  left = left;
}

-- ---- how a call ends that stops as another did

pub ends-of : {U : Type 0} {unit : ℕ} {before after : Outside} (stop : Stop) (r : Result U Stop) → StopsAt unit before after stop → IsErrAnd r (λ e. e ≡ stop) → ReadEnds {T = U} unit before after r
ends-of stop (Ok x) cause fails = absurd fails
ends-of {unit = unit} {before = before} {after = after} stop (Err e) cause fails = record { cause = subst (λ (e : Stop). StopsAt unit before after e) (sym fails) cause; no_fault = tt }

-- memory ran out, where no fault was counted
pub ends-memory : {U : Type 0} {unit : ℕ} {before after : Outside} (r : Result U Stop) → NoFault before after → IsErrAnd r (λ e. e ≡ Memory) → ReadEnds {T = U} unit before after r
ends-memory (Ok x) none fails = absurd fails
ends-memory {unit = unit} {before = before} {after = after} (Err e) none fails = record { cause = subst (λ (e : Stop). StopsAt unit before after e) (sym fails) none; no_fault = tt }

-- what is written of a store that is made, if it is
pub done-if : {T : Type 0} (unit : ℕ) (before after : Outside) (input : List ℕ) (s : Store) (view : T → List ℕ) (r : Result T Stop) → IsAsked (decoded input) (Ok s) → None ≡ refused_on s (device_on unit before)
    → IfOk r (λ text. view text ≡ restored_text (Ok s)) → OnOk r (IsLeft (Ok s) unit before after) → IfOk r (λ text. IsDone input unit before after (view text))
done-if unit before after input s view (Ok text) asked none is left = done-made unit before after input s (view text) asked none is left
done-if unit before after input s view (Err stop) asked none is left = tt
