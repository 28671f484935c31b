-- A comment above each definition states its rule, and ends with whose the rule is: this project's
-- own. A mere word, which states no rule, is a word of these definitions.
pub mod Watch
