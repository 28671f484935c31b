-- A comment above each definition states its rule and ends with whose the rule is. It is Newton's
-- (Newton Formats 1.1, Newton Programmer's Guide 2.0, with the part that has it) or this project's
-- own. A mere word on lists, nodes or readers states no rule, and is called a word of these
-- definitions.
pub mod Later
pub mod Written
pub mod Laws
