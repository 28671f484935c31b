use Rattle.std.proofs.Common.{rules, ◌≡◌, sym, ◌∙◌, ap, ℕ, true, false, nat_lt, List, Option, is_some}
use Rattle.newt_host.specs.Moments.{image}
use Rattle.newt_backup.specs.Contents.{store_in}
use Rattle.newt_spec_store.specs.Valid.{fits}
use Rattle.newt_store_backup.specs.Restored.{refused_on}
use Rattle.newt_store_backup.proofs.Outcomes.{device-there, full-refused, none-refused}
use Rattle.newt_store_backup.proofs.restoring.refusal_on.Goals as goal

pub returns-then-not-branch-clause-refusal : goal.returns-then-not-branch-clause-refusal
returns-then-not-branch-clause-refusal g c = λ told.
    let outside = g.H.Host.outside c.args.host.now in
    let s = store_in c.args.directory.now c.args.entries.now in
    let img : List ℕ = image c.args.unit outside.now in
    let there : is_some (outside.card c.args.unit) ≡ true = search rules in
    let few : nat_lt (outside.blocks c.args.unit) 13 ≡ false = search rules in
    let many : nat_lt 4099 (outside.blocks c.args.unit) ≡ false = search rules in
    let none : c.in_ok-has_store.field-0 ≡ false = search rules in
    let no : c.in_ok-fits_on.field-0 ≡ false = search rules in
    let fit = c.in_ok-fits_on.ensures ∙ ap (λ (n : ℕ). fits n s) c.blocks-blocks.ensures in
    full-refused s img (outside.blocks c.args.unit) c.in_ok-has_store.field-0 c.in_ok-fits_on.field-0 (g.met.H.Host.sized c.args.host.now c.args.unit told) few many
    (c.in_ok-has_store.ensures.found told) none fit no
    ∙ ap (λ (d : Option (List ℕ)). refused_on s d) (sym (device-there img (outside.card c.args.unit) there))

pub returns-clause-refusal : goal.returns-clause-refusal
returns-clause-refusal g c = λ told.
    let outside = g.H.Host.outside c.args.host.now in
    let s = store_in c.args.directory.now c.args.entries.now in
    let img : List ℕ = image c.args.unit outside.now in
    let there : is_some (outside.card c.args.unit) ≡ true = search rules in
    let few : nat_lt (outside.blocks c.args.unit) 13 ≡ false = search rules in
    let many : nat_lt 4099 (outside.blocks c.args.unit) ≡ false = search rules in
    let none : c.in_ok-has_store.field-0 ≡ false = search rules in
    let yes : c.in_ok-fits_on.field-0 ≡ true = search rules in
    let fit = c.in_ok-fits_on.ensures ∙ ap (λ (n : ℕ). fits n s) c.blocks-blocks.ensures in
    none-refused s img (outside.blocks c.args.unit) c.in_ok-has_store.field-0 c.in_ok-fits_on.field-0 (g.met.H.Host.sized c.args.host.now c.args.unit told) few many
    (c.in_ok-has_store.ensures.found told) none fit yes
    ∙ ap (λ (d : Option (List ℕ)). refused_on s d) (sym (device-there img (outside.card c.args.unit) there))
