-- A query in two steps: the entries that have a key, in order, and which of them are kept.
use Rattle.std.specs.Prelude.{Bool, false, ◌&&◌, List, [], Option, Some, None}
use Rattle.newt_spec_store.specs.Store.{Store}
use Rattle.newt_spec_query.specs.Spec.{unbounded}
use Rattle.newt_spec_query.specs.Hits.{Query, Hit, above, below, passes}
use Rattle.newt_laws_hits.specs.Located.{Located, located}

-- the query without its range, tags, words and texts (this project's own)
abbrev pub stripped : Query → Query
stripped q = record q {
  spec = record {
    index = q.spec.index;
    lower = unbounded;
    upper = unbounded;
    tags = record { equal = None; all = None; any = None; none_of = None };
    words = [];
    texts = [];
    entire = false;
  };
}

-- the entry is there and passes the tags, the words and the texts (this project's own)
abbrev pub entry_passes : Query → Option Located → Bool
entry_passes q None = false
entry_passes q (Some f) = passes q.spec f.soup.tags f.entry.graph

-- the hit's key is in the range, and its entry passes (this project's own)
abbrev pub passing : List Store → Query → Hit → Bool
passing stores q h =
    above q.spec.index q.spec.lower h.key && below q.spec.index q.spec.upper h.key && entry_passes q (located stores h.store h.soup h.uid)
