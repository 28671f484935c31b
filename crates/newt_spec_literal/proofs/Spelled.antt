-- Texts on a page, one after another.
use Rattle.std.proofs.Common.{◌≡◌, ℕ, List, [], ap}
use Rattle.std.proofs.lemmas.List.{append-nil}
use Rattle.newt_spec_literal.specs.Spelling.{plain, Page, spelled}

pub spelled_nothing : (p : Page) → spelled p (plain []) ≡ p
spelled_nothing p = ap (λ (text : List ℕ). (text, p.1)) (append-nil p.0)
