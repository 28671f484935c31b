-- Texts of a graph that spell an object where they meet it first, and name it afterwards.
use Rattle.std.specs.Prelude.{ℕ, List, ◌++◌}

-- A text that depends on which objects have been met before it, and says which have been met at its
-- end. In a graph in normal form these are the objects below a number.
abbrev pub Spelling : Type 0
Spelling = ℕ → List ℕ × ℕ

-- characters that meet nothing
abbrev pub plain : List ℕ → Spelling
plain text met = (text, met)

infixr 65 ◌then◌
-- one text and then another
abbrev pub ◌then◌ : Spelling → Spelling → Spelling
(s then t) met = let first = s met in let second = t first.1 in (first.0 ++ second.0, second.1)

-- a page: the text so far, and the number below which all objects have been met
abbrev pub Page : Type 0
Page = List ℕ × ℕ

-- the page when this text has been added
abbrev pub spelled : Page → Spelling → Page
spelled page s = (page.0 ++ (s page.1).0, (s page.1).1)
