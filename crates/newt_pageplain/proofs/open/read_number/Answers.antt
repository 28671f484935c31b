use Rattle.std.proofs.Common.{◌≡◌, ℕ, nat_eq, List, Some, None, sym, ◌∙◌, ap}
use Rattle.std.specs.Map.{lookup}
use Rattle.std.specs.Option.{option_map, option_copied}
use Rattle.newt_host.specs.Moments.{image}
use Rattle.newt_pagelog.specs.Placed.{page_from}
use Rattle.newt_pagelog.proofs.Placing.{lookup-lifted}
use Rattle.newt_pageplain.proofs.open.read_number.Goals as goal

pub returns-in_ok-insert-in-Some-clause-page : goal.returns-in_ok-insert-in-Some-clause-page
returns-in_ok-insert-in-Some-clause-page g c = λ tells.
    let places = c.args.places.now.entries in
    let f = page_from (image c.args.journal.now.unit (g.H.Host.outside c.args.host.now).now) in
    let there : lookup (nat_eq c.args.number) places ≡ Some c.in-Some.place.now = sym c.get.ensures.value ∙ ap option_copied c.in-Some.is in
    c.in_ok-insert-in-Some.ensures.updates.1 ∙ ap (λ (p : List ℕ). Some p) (c.in_ok-page-in-Some.ensures.page tells) ∙ sym (lookup-lifted f places c.args.number ∙ ap (option_map f) there)

pub returns-in-None-clause-page : goal.returns-in-None-clause-page
returns-in-None-clause-page g c = λ tells.
    let places = c.args.places.now.entries in
    let f = page_from (image c.args.journal.now.unit (g.H.Host.outside c.args.host.now).now) in
    let none : lookup (nat_eq c.args.number) places ≡ None = sym c.get.ensures.value ∙ ap option_copied c.in-None.is in
    c.requires.lacks.fresh ∙ sym (lookup-lifted f places c.args.number ∙ ap (option_map f) none)
