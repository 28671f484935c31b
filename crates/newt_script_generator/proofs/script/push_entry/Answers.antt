use Rattle.std.proofs.Common.{◌≡◌, ◌∙◌, ap, List, ℕ, ◌++◌, ◌%◌, codes}
use Rattle.newt_base.specs.Text.{decimal_text}
use Rattle.newt_spec_script.specs.Generator.{add_line}
use Rattle.newt_script_generator.proofs.Left.{label_of, entry_joined}
use Rattle.newt_script_generator.proofs.script.push_entry.Goals as goal

pub returns : goal.returns
returns c =
    let d : ℕ = c.args.drawn in
    let old : List ℕ = c.args.text.now.items in
    let word : c.label.result.now ≡ label_of d = c.label.ensures in
    let first : c.push_field.new.text.items ≡ old ++ (codes "add 0 Names {name: {first: \"F" ++ decimal_text (d % 90)) = c.in_ok-push_field.ensures in
    let last : c.push_field-2.new.text.items ≡ c.push_field.new.text.items ++ (codes "\", last: \"L" ++ decimal_text (d % 1000)) = c.in_ok-push_field-2.ensures in
    let labels : c.extend_from_slice.new.self.items ≡ c.push_field-2.new.text.items ++ codes "\"}, labels: '" = c.in_ok-extend_from_slice.ensures.items in
    let shown : c.extend_from_slice-2.new.self.items ≡ c.extend_from_slice.new.self.items ++ c.label.result.now = c.in_ok-extend_from_slice-2.ensures.items in
    let number : c.push_field-3.new.text.items ≡ c.extend_from_slice-2.new.self.items ++ (codes ", n: " ++ decimal_text c.args.i) = c.in_ok-push_field-3.ensures in
    let end : c.extend_from_slice-3.new.self.items ≡ c.push_field-3.new.text.items ++ codes "}\n" = c.in_ok-extend_from_slice-3.ensures.items in
    let all : c.extend_from_slice-3.new.self.items ≡ old ++ add_line (c.args.i, d) = end
    ∙ ap (λ (t : List ℕ). t ++ codes "}\n") (number
    ∙ ap (λ (t : List ℕ). t ++ (codes ", n: " ++ decimal_text c.args.i)) (shown
    ∙ ap (λ (w : List ℕ). c.extend_from_slice.new.self.items ++ w) word
    ∙ ap (λ (t : List ℕ). t ++ label_of d) (labels
    ∙ ap (λ (t : List ℕ). t ++ codes "\"}, labels: '") (last
    ∙ ap (λ (t : List ℕ). t ++ (codes "\", last: \"L" ++ decimal_text (d % 1000))) first))))
    ∙ entry_joined old c.args.i d in
    all
