-- A comment above each definition states its rule, and ends with whose the rule is. It may be that
-- of Newton's papers (Newton Formats 1.1, Newton Programmer's Guide 2.0, with the part that has
-- it), or this project's own. A mere word on lists, which states no rule, is a word of these
-- definitions.
pub mod Masks
pub mod Range
pub mod Rows
pub mod Stands
