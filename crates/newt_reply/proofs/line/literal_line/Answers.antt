use Rattle.std.proofs.Common.{◌++◌, ◌∷◌, [], List, ℕ, map}
use Rattle.newt_spec_literal.specs.Printed.{literal}
use Rattle.newt_reply.proofs.Listed.{whole_line, one_field_more}
use Rattle.newt_reply.proofs.line.literal_line.Goals as goal

pub returns : goal.returns
returns c =
    let fields : List (List ℕ) = map (λ part. part.now) c.args.fields.now in
    let text = literal c.args.graph.now in
    whole_line (fields ++ text ∷ []) c.in_ok-line.line.items c.push-2.new.self.items
    (one_field_more fields text c.in_ok-front.front.items c.push.new.self.items c.in_ok-line.line.items c.print_after.ensures.some c.in_ok-front.ensures c.in_ok-push.ensures.items c.in_ok-line.ensures.after)
    c.in_ok-push-2.ensures.items
