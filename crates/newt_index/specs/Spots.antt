-- How the definition sees the spots of the code: as hits.
use Rattle.newt_spec_query.specs.Hits.{Hit}
use Rattle.newt_index.specs.declared.identity.Spot.{Spot}

-- a spot as a hit (a word of these definitions)
abbrev pub spot_hit : Spot → Hit
spot_hit s = record { key = s.key; store = s.store; soup = s.soup; uid = s.uid }
