-- What the commands of cursors reply.
use Rattle.std.specs.Prelude.{ℕ}
use Rattle.newt_spec_world.specs.Answer.{current, or_nil}
use Rattle.newt_spec_world.specs.Reply.{Reply}
use Rattle.newt_spec_world.specs.World.{World, cursor}
use Rattle.newt_spec_store.specs.Store.{Entry as PlainEntry}
use Rattle.newt_spec_query.specs.Hits.{Query}
use Rattle.newt_spec_query.specs.Cursor.{Place, start, finish, on}
use Rattle.newt_engine_hits.specs.Present.{Present as Hit}
use Rattle.newt_engine_cursors.specs.declared.show.Shown.{Shown}
use Rattle.newt_engine_cursors.specs.declared.show.Shown.TheVariants.{Nil, Deleted, Entry}
use Rattle.newt_engine_cursors.specs.declared.show.Side.{Side}
use Rattle.newt_engine_cursors.specs.declared.show.Side.TheVariants as at

-- the reply that shows a cursor of a query at a place (a word of these definitions)
abbrev pub shown_place : World → Query → Place → Reply
shown_place w q place = current w (record { query = q; place = place })

-- the reply that shows a cursor of a world, nil where it is not open (a word of these definitions)
abbrev pub shown_at : World → ℕ → Reply
shown_at w n = or_nil (current w) (cursor w n)

-- the reply that shows where a cursor stands (a word of these definitions)
abbrev pub shown_reply : Shown → Reply
shown_reply Nil = Reply.nil
shown_reply Deleted = Reply.deleted
shown_reply (Entry unit e) = Reply.current unit e.uid e.time e.graph

-- the reply that names the side of the hits (a word of these definitions)
abbrev pub side_reply : Side → Reply
side_reply at.Begin = Reply.begin
side_reply at.End = Reply.«end»
side_reply at.Nil = Reply.nil

-- the reply that names the side on which a place is (this project's own)
abbrev pub side_at : Place → Reply
side_at p = elim p [ start ↦ Reply.begin | finish ↦ Reply.«end» | on _ ↦ Reply.nil ]

-- the reply that shows an entry of a unit (a word of these definitions)
abbrev pub entry_reply : ℕ → PlainEntry → Reply
entry_reply unit e = Reply.current unit e.uid e.time e.graph

-- the reply that shows a hit (a word of these definitions)
abbrev pub hit_reply : Hit → Reply
hit_reply x = entry_reply x.unit x.entry
