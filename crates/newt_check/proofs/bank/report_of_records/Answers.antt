use Rattle.std.proofs.Common.{◌≡◌, ◌≤◌, ◌+◌, ◌*◌, ℕ, List, length, take, drop, arith, sym, ◌∙◌, ap, subst, Option, Some, None}
use Rattle.newt_host.specs.Moments.{image}
use Rattle.newt_spec_image.specs.Records.{chosen_bank, header, IsVersion}
use Rattle.newt_journal.specs.Bank.{bank_number, start_of, limit_of}
use Rattle.newt_journal.specs.declared.bank.Bank.{Bank}
use Rattle.newt_journal.proofs.Opened.{at_some, of_some}
use Rattle.newt_pagelog.proofs.Replaying.{at_none}
use Rattle.newt_spec_check.specs.declared.Layer.TheVariants as layer
use Rattle.newt_spec_check.specs.Damage.{leaves_bank}
use Rattle.newt_store_catalog.proofs.Opening.{is-none, some-of}
use Rattle.newt_check.specs.Gates.{first_from}
use Rattle.newt_check.specs.Reports.{IsDamaged}
use Rattle.newt_check.proofs.Voted.{bad-header, has-records, long, no-votes}
use Rattle.newt_check.proofs.bank.report_of_records.Goals as goal

pub returns-in_default-clause-report : goal.returns-in_default-clause-report
returns-in_default-clause-report g c t =
    let img : List ℕ = image c.args.unit (g.H.Host.outside c.args.host.now).now in
    let size : length img ≡ c.blocks-blocks.result * 4096 = omega (arith, g.met.H.Host.sized c.args.host.now c.args.unit t, c.blocks-blocks.ensures) in
    no-votes img c.blocks-blocks.result size (omega (arith, c.blocks-blocks.ensures, c.requires.enough)) (omega (arith, c.blocks-blocks.ensures, c.requires.few))
    (at_none _ _ c.in_ok-bank.field-0 c.in_default.is (c.in_ok-bank.ensures.bank t))

pub returns-then-is_none-clause-report : goal.returns-then-is_none-clause-report
returns-then-is_none-clause-report g c t =
    let unit = c.args.unit in
    let img : List ℕ = image unit (g.H.Host.outside c.args.host.now).now in
    let blocks = c.blocks-blocks.result in
    let size : length img ≡ blocks * 4096 = omega (arith, g.met.H.Host.sized c.args.host.now unit t, c.blocks-blocks.ensures) in
    let enough : 13 ≤ blocks = omega (arith, c.blocks-blocks.ensures, c.requires.enough) in
    let few : blocks ≤ 4099 = omega (arith, c.blocks-blocks.ensures, c.requires.few) in
    let bank : Bank = c.in-Some.bank in
    let voted : chosen_bank img ≡ Some (bank_number bank) = at_some _ _ c.in-Some.is (c.in_ok-bank.ensures.bank t) in
    let begin : c.start-start.result ≡ start_of blocks bank = c.start-start.ensures in
    let no = at_none _ _ c.in_ok-read_version.field-0 (is-none c.in_ok-read_version.field-0 c.if-is_none.ensures) (c.in_ok-read_version.ensures.version t) in
    let same : take 16 (drop c.start-start.result (image unit (g.H.Host.outside c.read_votes.new.host).now)) ≡ take 16 (drop (start_of blocks bank) img) = λ i. take 16 (drop (begin i) (image unit (c.in_ok-bank.ensures.reads.moment i))) in
    subst (λ (n : ℕ). IsDamaged layer.Header n img) (sym begin) (bad-header img blocks size enough few bank voted (λ version is e. no version is (same ∙ e)))

pub returns-in-Some-2-clause-report : goal.returns-in-Some-2-clause-report
returns-in-Some-2-clause-report g c t =
    let unit = c.args.unit in
    let img : List ℕ = image unit (g.H.Host.outside c.args.host.now).now in
    let blocks = c.blocks-blocks.result in
    let size : length img ≡ blocks * 4096 = omega (arith, g.met.H.Host.sized c.args.host.now unit t, c.blocks-blocks.ensures) in
    let enough : 13 ≤ blocks = omega (arith, c.blocks-blocks.ensures, c.requires.enough) in
    let few : blocks ≤ 4099 = omega (arith, c.blocks-blocks.ensures, c.requires.few) in
    let bank : Bank = c.in-Some.bank in
    let voted : chosen_bank img ≡ Some (bank_number bank) = at_some _ _ c.in-Some.is (c.in_ok-bank.ensures.bank t) in
    let begin : c.start-start.result ≡ start_of blocks bank = c.start-start.ensures in
    let v = some-of c.in_ok-read_version.field-0 c.if-is_none.ensures in
    let known : IsVersion v.0 = of_some IsVersion v.1 c.in_ok-read_version.ensures.known in
    let same : take 16 (drop c.start-start.result (image unit (g.H.Host.outside c.read_votes.new.host).now)) ≡ take 16 (drop (start_of blocks bank) img) = λ i. take 16 (drop (begin i) (image unit (c.in_ok-bank.ensures.reads.moment i))) in
    let headed : take 16 (drop (start_of blocks bank) img) ≡ header v.0 = sym same ∙ at_some _ _ v.1 (c.in_ok-read_version.ensures.version t) in
    let moment = c.in_ok-read_version.ensures.reads.moment ∙ c.in_ok-bank.ensures.reads.moment in
    let found : first_from leaves_bank (start_of blocks bank + 16) (limit_of blocks bank) img ≡ Some c.in-Some-2.place =
    sym (λ i. first_from leaves_bank (begin i + 16) (c.limit-limit.ensures i) (image unit (moment i))) ∙ sym (c.in_ok-place.ensures.row t) ∙ c.in-Some-2.is in
    long img blocks size enough few bank voted v.0 known headed c.in-Some-2.place found

pub returns-clause-report : goal.returns-clause-report
returns-clause-report g c t =
    let unit = c.args.unit in
    let img : List ℕ = image unit (g.H.Host.outside c.args.host.now).now in
    let blocks = c.blocks-blocks.result in
    let size : length img ≡ blocks * 4096 = omega (arith, g.met.H.Host.sized c.args.host.now unit t, c.blocks-blocks.ensures) in
    let enough : 13 ≤ blocks = omega (arith, c.blocks-blocks.ensures, c.requires.enough) in
    let few : blocks ≤ 4099 = omega (arith, c.blocks-blocks.ensures, c.requires.few) in
    let bank : Bank = c.in-Some.bank in
    let voted : chosen_bank img ≡ Some (bank_number bank) = at_some _ _ c.in-Some.is (c.in_ok-bank.ensures.bank t) in
    let begin : c.start-start.result ≡ start_of blocks bank = c.start-start.ensures in
    let v = some-of c.in_ok-read_version.field-0 c.if-is_none.ensures in
    let known : IsVersion v.0 = of_some IsVersion v.1 c.in_ok-read_version.ensures.known in
    let same : take 16 (drop c.start-start.result (image unit (g.H.Host.outside c.read_votes.new.host).now)) ≡ take 16 (drop (start_of blocks bank) img) = λ i. take 16 (drop (begin i) (image unit (c.in_ok-bank.ensures.reads.moment i))) in
    let headed : take 16 (drop (start_of blocks bank) img) ≡ header v.0 = sym same ∙ at_some _ _ v.1 (c.in_ok-read_version.ensures.version t) in
    let moment = c.in_ok-read_version.ensures.reads.moment ∙ c.in_ok-bank.ensures.reads.moment in
    let none : first_from leaves_bank (start_of blocks bank + 16) (limit_of blocks bank) img ≡ None =
    sym (λ i. first_from leaves_bank (begin i + 16) (c.limit-limit.ensures i) (image unit (moment i))) ∙ sym (c.in_ok-place.ensures.row t) ∙ c.in_default-2.is in
    has-records img blocks size enough few bank voted v.0 known headed none
