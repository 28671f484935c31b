-- A comment above each definition states its rule and ends with whose the rule is: this project's own,
-- or, for a mere word that states no rule, a word of these definitions.
pub mod World
pub mod Calls
pub mod Unread
pub mod Reached
pub mod Fits
pub mod Replies
pub mod Keyed
pub mod Opening
pub mod Motions
