use Rattle.std.proofs.Common.{◌≡◌, ◌+◌, ◌*◌, map, drop}
use Rattle.std.specs.Prelude.{zip}
use Rattle.newt_spec_literal.specs.Printed.{more_text, list_text, field_text, value_at}
use Rattle.newt_spec_literal.specs.Spelling.{spelled}
use Rattle.newt_lit_print.proofs.values.Source.+value.Given as goal

abbrev pub decreases-found : goal.decreases-found
decreases-found l = 6 * l.levels

abbrev pub decreases-value : goal.decreases-value
decreases-value l = 6 * l.levels + 1

abbrev pub decreases-field : goal.decreases-field
decreases-field l = 6 * l.levels + 2

abbrev pub decreases-fields : goal.decreases-fields
decreases-fields l = 6 * l.levels + 4

abbrev pub decreases-more_fields : goal.decreases-more_fields
decreases-more_fields l = 6 * l.levels + 3

abbrev pub decreases-values : goal.decreases-values
decreases-values l = 6 * l.levels + 3

abbrev pub decreases-object : goal.decreases-object
decreases-object l = 6 * l.levels + 5

-- the text so far and that of the values that are left
abbrev pub invariant-values-loop-value : goal.invariant-values-loop-value
invariant-values-loop-value l =
    spelled l.page (more_text 93 (map (value_at l.self.nodes.now l.self.labels.now l.levels) (drop l.value-index l.rest)))
    ≡ spelled l.fn.page (list_text 93 (map (value_at l.self.nodes.now l.self.labels.now l.levels) l.fn.values))

-- the same for slots
abbrev pub invariant-more_fields-loop-tag : goal.invariant-more_fields-loop-tag
invariant-more_fields-loop-tag l =
    spelled l.page (more_text 125 (map (field_text l.self.nodes.now (value_at l.self.nodes.now l.self.labels.now l.levels)) (zip l.tag-iterator.a.rest.now l.tag-iterator.b.rest.now)))
    ≡ spelled l.fn.page (more_text 125 (map (field_text l.self.nodes.now (value_at l.self.nodes.now l.self.labels.now l.levels)) (zip l.fn.tags l.fn.values)))
