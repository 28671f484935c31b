-- A comment above each definition states its rule and ends with whose the rule is. It is Newton's
-- (Newton Programmer's Guide 2.0, with the part that has it) or this project's own. A mere word
-- states no rule, and is called a word of these definitions.
pub mod Since
pub mod Runs
pub mod Told
pub mod Steps
