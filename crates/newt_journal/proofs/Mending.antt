-- How much is done to mend three votes.
use Rattle.std.proofs.Common.{◌≡◌, ◌≢◌, ℕ, Bool, Result, ◌+◌, ◌-◌, ◌*◌, ◌≤◌, ◌==◌, if◌then◌else◌, List, [], ◌∷◌, take, drop, sym, ◌∙◌, ap, subst, arith}
use Rattle.std.proofs.lemmas.Bool.Decides.{nat_tests}
use Rattle.newt_host.specs.Moments.{Moment, image}
use Rattle.newt_host.specs.Outside.{Outside, Touches, Work}
use Rattle.newt_spec_image.specs.Records.{vote_of}
use Rattle.newt_journal.specs.Calls.{IsWithin, Programs, Reads, votes, writing}
use Rattle.newt_journal.specs.Repairs.{Settling, differs, differing}
use Rattle.newt_journal.proofs.Adding.{Did, did-read, did-write, then, widen-by}
use Rattle.newt_journal.proofs.Opened.{byte_at}
use Rattle.newt_journal.proofs.Settle.{Order, third_first, second_first, Blocks, blocks, other_vote}

pub within : {unit p f e s : ℕ} {a b : Outside} → Did unit p f e s a b → (work : Work)
    → p ≤ work.programs → f ≤ work.fetches → e ≤ work.erases → s ≤ work.syncs → IsWithin unit work a b
within did work programs fetches erases syncs =
    let wide = widen-by did work.programs work.fetches work.erases work.syncs programs fetches erases syncs in
    record { costs = wide.costs; wears = wide.wears }

pub did-within : {unit : ℕ} {work : Work} {a b : Outside} → Touches unit a b → IsWithin unit work a b
    → Did unit work.programs work.fetches work.erases work.syncs a b
did-within alone w = record { alone = alone; costs = w.costs; wears = w.wears }

-- a vote that was read, and is another one, differs
pub does_differ : (k named vote block : ℕ) (img : List ℕ) → named ≡ k
    → take 1 (drop (block * 4096) img) ≡ vote ∷ [] → vote ≢ named → differs k block img ≡ 1
does_differ k named vote block img is byte differ =
    let other : vote_of block img ≢ k = λ same. differ (sym (byte_at img (block * 4096) vote byte) ∙ same ∙ sym is) in
    grind (arith, nat_tests, other)

-- one vote is read, and maybe written anew
pub read_alone : {T E : Type 0} {unit n : ℕ} {result : Result T E} {a b : Outside} → Reads unit 1 result a b
    → IsWithin unit (votes 1 n) a b
read_alone {n = n} reads = within (did-read reads) (votes 1 n) (omega arith) (omega arith) (omega arith) (omega arith)

pub rewritten_once : {T E U F : Type 0} {told : Bool} {unit n : ℕ} {leaves : List ℕ → Type 0}
    {was : Result T E} {result : Result U F} {a b c : Outside} → Reads unit 1 was a b
    → Programs told unit (writing 1 1 2) leaves result b c → n ≡ 1 → IsWithin unit (votes 1 n) a c
rewritten_once {n = n} reads writes is = within ((then) (did-read reads) (did-write writes)) (votes 1 n)
    (omega (arith, is)) (omega arith) (omega (arith, is)) (omega (arith, is))

-- while another block is mended, a vote differs as it did
other_differs : (b block k : ℕ) (img left : List ℕ) → b ≢ block → Settling block k img left
    → differs k b left ≡ differs k b img
other_differs b block k img left apart s =
    ap (λ (v : ℕ). if v == k then 0 else 1) (other_vote b block k img left apart s)

swapped : (a b c : ℕ) → c + b + a ≡ a + b + c
swapped a b c = omega arith

turned : (a b c : ℕ) → b + c + a ≡ a + b + c
turned a b c = omega arith

in_any_order : (k other near far : ℕ) (img : List ℕ) → Order (vote_of 2 img) other near far
    → differs k near img + differs k far img + differs k 0 img ≡ differing k img
in_any_order k other near far img (third_first is) =
    swapped (differs k 0 img) (differs k 1 img) (differs k 2 img)
in_any_order k other near far img (second_first is) =
    turned (differs k 0 img) (differs k 1 img) (differs k 2 img)

module _ (k near far other : ℕ) (img : List ℕ) (order : Order (vote_of 2 img) other near far) where
  b : Blocks near far
  b = blocks order

  sum_of : differs k near img + differs k far img + differs k 0 img ≡ differing k img
  sum_of = in_any_order k other near far img order

  pub most_1 : differs k near img ≤ differing k img
  most_1 = omega (arith, sum_of)

  module _ (img_1 : List ℕ) (s_1 : Settling near k img img_1) where
    pub most_2 : differs k near img + differs k far img_1 ≤ differing k img
    most_2 = omega (arith, sum_of, other_differs far near k img img_1 b.apart s_1)

    module _ (img_2 : List ℕ) (s_2 : Settling far k img_1 img_2) where
      pub most_3 : differs k near img + differs k far img_1 + differs k 0 img_2 ≤ differing k img
      most_3 = omega (
        arith,
        sum_of,
        other_differs far near k img img_1 b.apart s_1,
        other_differs 0 near k img img_1 (λ is. b.near_first (sym is)) s_1,
        other_differs 0 far k img_1 img_2 (λ is. b.far_first (sym is)) s_2,
      )

-- after one, two and three of them
module _ {T E : Type 0} {unit n : ℕ} {was : Result T E} {o a : Outside} (reads : Reads unit 1 was o a) where
  module _ {d_1 : ℕ} {b : Outside} (alone_1 : Touches unit a b) (w_1 : IsWithin unit (votes 1 d_1) a b) where
    pub after_1 : d_1 ≤ n → IsWithin unit (votes 4 n) o b
    after_1 few = within ((then) (did-read reads) (did-within alone_1 w_1)) (votes 4 n)
        (omega (arith, few)) (omega arith) (omega (arith, few)) (omega (arith, few))

    module _ {d_2 : ℕ} {c : Outside} (alone_2 : Touches unit b c) (w_2 : IsWithin unit (votes 1 d_2) b c) where
      pub after_2 : d_1 + d_2 ≤ n → IsWithin unit (votes 4 n) o c
      after_2 few = within ((then) (did-read reads) ((then) (did-within alone_1 w_1) (did-within alone_2 w_2))) (votes 4 n)
          (omega (arith, few)) (omega arith) (omega (arith, few)) (omega (arith, few))

      pub after_3 : {d_3 : ℕ} {d : Outside} → Touches unit c d → IsWithin unit (votes 1 d_3) c d → d_1 + d_2 + d_3 ≤ n
          → IsWithin unit (votes 4 n) o d
      after_3 alone_3 w_3 few = within
          ((then) (did-read reads) ((then) (did-within alone_1 w_1) ((then) (did-within alone_2 w_2) (did-within alone_3 w_3)))) (votes 4 n)
          (omega (arith, few)) (omega arith) (omega (arith, few)) (omega (arith, few))

-- as it was before nothing happened
pub before_it : (unit u k : ℕ) (old m : Moment) (a b : Outside) → m ≡ old
    → IsWithin unit (votes 4 (differing k (image u m))) a b → IsWithin unit (votes 4 (differing k (image u old))) a b
before_it unit u k old m a b same = subst (λ (m : Moment). IsWithin unit (votes 4 (differing k (image u m))) a b) same
