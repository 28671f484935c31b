use Rattle.std.proofs.Common.{◌≡◌, List, ℕ, IfOk, sym, ◌∙◌, subst}
use Rattle.newt_keys.proofs.Turned.{text_written}
use Rattle.newt_keys.proofs.bytes.put_text.Goals as goal

pub returns : goal.returns
returns c =
    subst (λ (made : List ℕ). IfOk c.put_turned-2.result (λ _. c.put_turned-2.new.bytes.items ≡ made))
    (text_written c.args.order c.args.bytes.now.items c.args.text.now c.put_turned.new.bytes.items
    (sym c.contains.ensures.value ∙ c.if-contains.false) c.in_ok-put_turned.ensures)
    c.put_turned-2.ensures
