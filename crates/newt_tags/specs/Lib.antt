-- A comment above each definition states its rule, and ends with whose the rule is. It may be that
-- of Newton's papers (Newton Programmer's Guide 2.0), or this project's own. A mere word, which
-- states no rule, is a word of these definitions.
pub mod Masks
