use Rattle.std.proofs.Common.{◌≡◌, Some, None, ap, ◌∙◌}
use Rattle.newt_graph.specs.Graph.{folded}
use Rattle.newt_graph.specs.Names.{number_of, checked_among}
use Rattle.newt_graph.proofs.Known.{found, found_under}
use Rattle.newt_graph.proofs.names.Names.find.Goals as goal

pub returns-in-Some : goal.returns-in-Some
returns-in-Some c =
    let numbers = c.args.self.now.numbers in
    let name = c.args.name.now in
    let looked : Some c.in-Some.k.now ≡ number_of numbers (folded name) = c.in-Some.ensures.value ∙ found_under name c.args.key.now c.requires.key numbers.entries in
    c.checked.ensures ∙ (ap (checked_among name c.args.nodes.now) looked ∙ found (number_of numbers) c.args.nodes.now name c.requires.known)

pub returns-in-None : goal.returns-in-None
returns-in-None c =
    let numbers = c.args.self.now.numbers in
    let name = c.args.name.now in
    let looked : None ≡ number_of numbers (folded name) = c.in-None.ensures.value ∙ found_under name c.args.key.now c.requires.key numbers.entries in
    ap (checked_among name c.args.nodes.now) looked ∙ found (number_of numbers) c.args.nodes.now name c.requires.known
