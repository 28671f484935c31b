use Rattle.std.proofs.Common.{rules}
use Rattle.newt_graph.specs.Draft.{with_symbol, with_set}
use Rattle.newt_graph.specs.Import.{with_graph}
use Rattle.newt_path.proofs.Trail.{fails_none, alone, alone_fits, named_fits, named_so, value_fits, stands, frame_within, set_passes, made, all_joined, finished, ends}
use Rattle.newt_path.proofs.set.set_in.Goals as goal

pub returns-in_err-import-clause-limit : goal.returns-in_err-import-clause-limit
returns-in_err-import-clause-limit c = λ is.
    absurd (alone_fits c.args.graph.now c.new-builder.result c.requires.graph (search rules)
    (fails_none c.in_err-import.field-0.0 (with_graph c.new-builder.result c.args.graph.now) c.in_err-import.ensures.value (search rules)))

pub returns-in_err-tag-clause-limit : goal.returns-in_err-tag-clause-limit
returns-in_err-tag-clause-limit c = λ is.
    let g = c.args.graph.now in
    let first = alone g c.new-builder.result c.import.new.self c.in_ok-import.field-0 c.requires.graph (search rules) (search rules) in
    absurd (named_fits g c.args.name.now c.import.new.self c.requires.graph first
    (fails_none c.in_err-tag.field-0.0 (with_symbol c.import.new.self c.args.name.now) c.in_err-tag.ensures.value (search rules)))

pub returns-in_err-value-clause-limit : goal.returns-in_err-value-clause-limit
returns-in_err-value-clause-limit c = λ is.
    let g = c.args.graph.now in
    let first = alone g c.new-builder.result c.import.new.self c.in_ok-import.field-0 c.requires.graph (search rules) (search rules) in
    let so = named_so g c.args.name.now c.import.new.self c.symbol.new.self c.in_ok-tag.tag c.requires.graph first (search rules) in
    absurd (value_fits g c.args.name.now c.in_ok-tag.tag c.symbol.new.self c.args.value.now c.requires.graph c.requires.value so
    (fails_none c.in_err-value.field-0.0 (with_graph c.symbol.new.self c.args.value.now) c.in_err-value.ensures.value (search rules)))

pub set-requires : goal.set-requires
set-requires c =
    let g = c.args.graph.now in
    let first = alone g c.new-builder.result c.import.new.self c.in_ok-import.field-0 c.requires.graph (search rules) (search rules) in
    let so = named_so g c.args.name.now c.import.new.self c.symbol.new.self c.in_ok-tag.tag c.requires.graph first (search rules) in
    let s = stands g c.args.name.now c.in_ok-tag.tag c.symbol.new.self c.import-2.new.self c.args.value.now c.in_ok-value.value c.requires.graph c.requires.value so (search rules) in
    frame_within g c.args.name.now c.args.value.now c.in_ok-tag.tag c.args.frame c.in_ok-value.value c.import-2.new.self c.requires.frame s

pub returns-in_err-set-clause-limit : goal.returns-in_err-set-clause-limit
returns-in_err-set-clause-limit c = λ is.
    let g = c.args.graph.now in
    let first = alone g c.new-builder.result c.import.new.self c.in_ok-import.field-0 c.requires.graph (search rules) (search rules) in
    let so = named_so g c.args.name.now c.import.new.self c.symbol.new.self c.in_ok-tag.tag c.requires.graph first (search rules) in
    let s = stands g c.args.name.now c.in_ok-tag.tag c.symbol.new.self c.import-2.new.self c.args.value.now c.in_ok-value.value c.requires.graph c.requires.value so (search rules) in
    set_passes g c.args.name.now c.args.value.now c.in_ok-tag.tag c.args.frame c.in_ok-value.value c.import-2.new.self c.requires.graph c.requires.value c.requires.frame s
    (fails_none c.in_err-set.field-0.0 (with_set c.import-2.new.self c.args.frame c.in_ok-tag.tag c.in_ok-value.value) c.in_err-set.ensures.value (search rules))

pub finish-requires : goal.finish-requires
finish-requires c =
    let g = c.args.graph.now in
    let first = alone g c.new-builder.result c.import.new.self c.in_ok-import.field-0 c.requires.graph (search rules) (search rules) in
    let so = named_so g c.args.name.now c.import.new.self c.symbol.new.self c.in_ok-tag.tag c.requires.graph first (search rules) in
    let s = stands g c.args.name.now c.in_ok-tag.tag c.symbol.new.self c.import-2.new.self c.args.value.now c.in_ok-value.value c.requires.graph c.requires.value so (search rules) in
    let m = made g c.args.name.now c.args.value.now c.in_ok-tag.tag c.args.frame c.in_ok-value.value c.import-2.new.self c.set.new.self c.requires.graph c.requires.frame s (search rules) in
    all_joined g c.args.name.now c.args.value.now c.in_ok-tag.tag c.args.frame c.requires.frame.tags c.requires.frame.values c.set.new.self c.root.result c.requires.value m (search rules)

pub returns-clause-form : goal.returns-clause-form
returns-clause-form c =
    let g = c.args.graph.now in
    let first = alone g c.new-builder.result c.import.new.self c.in_ok-import.field-0 c.requires.graph (search rules) (search rules) in
    let so = named_so g c.args.name.now c.import.new.self c.symbol.new.self c.in_ok-tag.tag c.requires.graph first (search rules) in
    let s = stands g c.args.name.now c.in_ok-tag.tag c.symbol.new.self c.import-2.new.self c.args.value.now c.in_ok-value.value c.requires.graph c.requires.value so (search rules) in
    let m = made g c.args.name.now c.args.value.now c.in_ok-tag.tag c.args.frame c.in_ok-value.value c.import-2.new.self c.set.new.self c.requires.graph c.requires.frame s (search rules) in
    finished g c.args.name.now c.args.value.now c.in_ok-tag.tag c.args.frame c.requires.frame.tags c.requires.frame.values c.set.new.self c.root.result c.finish.result m (search rules) c.finish.ensures.is_form

pub returns-clause-limit : goal.returns-clause-limit
returns-clause-limit c =
    let g = c.args.graph.now in
    let first = alone g c.new-builder.result c.import.new.self c.in_ok-import.field-0 c.requires.graph (search rules) (search rules) in
    let so = named_so g c.args.name.now c.import.new.self c.symbol.new.self c.in_ok-tag.tag c.requires.graph first (search rules) in
    let s = stands g c.args.name.now c.in_ok-tag.tag c.symbol.new.self c.import-2.new.self c.args.value.now c.in_ok-value.value c.requires.graph c.requires.value so (search rules) in
    let m = made g c.args.name.now c.args.value.now c.in_ok-tag.tag c.args.frame c.in_ok-value.value c.import-2.new.self c.set.new.self c.requires.graph c.requires.frame s (search rules) in
    ends g c.args.name.now c.args.value.now c.in_ok-tag.tag c.args.frame c.requires.frame.tags c.requires.frame.values c.set.new.self c.root.result c.finish.result m (search rules) c.finish.ensures.value
