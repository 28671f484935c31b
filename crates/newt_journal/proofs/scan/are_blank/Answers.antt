use Rattle.std.proofs.Common.{rules, arith, ◌≡◌, ◌+◌, ◌&&◌, Bool, nat_eq, take, true, false, replicate, length, get_or, sym, ap, ◌∙◌, refl}
use Rattle.std.proofs.lemmas.List.{take_all}
use Rattle.newt_journal.proofs.Blank.{all_blank, is_blank, blank_is, one_more}
use Rattle.newt_journal.proofs.scan.are_blank.Goals as goal

pub loop-byte-init : goal.loop-byte-init
loop-byte-init c = record { inside = omega arith; blank = refl }

pub loop-byte-preserved : goal.loop-byte-preserved
loop-byte-preserved c = record {
  inside = omega arith;
  blank = ap (λ (b : Bool). b && nat_eq (get_or c.args.bytes.now c.loop-byte.byte-index 0) 255) c.loop-byte.invariant.blank ∙ sym (one_more c.args.bytes.now c.loop-byte.byte-index 0 c.loop-byte-test.true);
}

pub returns-clause-blank : goal.returns-clause-blank
returns-clause-blank c = λ yes.
    let all : c.loop-byte.blank ≡ all_blank c.args.bytes.now = c.loop-byte.invariant.blank ∙ ap all_blank (take_all c.loop-byte.byte-index c.args.bytes.now c.loop-byte-test.false) in
    is_blank c.args.bytes.now (sym all ∙ yes)

pub returns-clause-not_blank : goal.returns-clause-not_blank
returns-clause-not_blank c = λ no same.
    let all : c.loop-byte.blank ≡ all_blank c.args.bytes.now = c.loop-byte.invariant.blank ∙ ap all_blank (take_all c.loop-byte.byte-index c.args.bytes.now c.loop-byte-test.false) in
    let yes : all_blank c.args.bytes.now ≡ true = ap all_blank same ∙ blank_is (length c.args.bytes.now) in
    absurd (let e : true ≡ false = sym yes ∙ (sym all ∙ no) in cc)
