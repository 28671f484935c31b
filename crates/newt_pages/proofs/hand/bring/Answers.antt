use Rattle.std.proofs.Common.{◌≡◌, ℕ, ◌+◌, ◌≤◌, List, Contains, Some, nat_eq, sym, ◌∙◌, ap, subst, ⊎_elim, rules}
use Rattle.std.specs.Map.{lookup}
use Rattle.std.specs.Option.{is_some}
use Rattle.newt_host.specs.Moments.{image}
use Rattle.newt_journal.specs.Places.{first_place, recorded}
use Rattle.newt_pagebook.proofs.Tests.{the_some}
use Rattle.newt_pagelog.specs.Placed.{page_of}
use Rattle.lru.specs.LruCache.{LruCache, promoted}
use Rattle.newt_pages.proofs.Caching.{put-found, put-cached, promoted-found, cached-at, cached-promoted, fetch-costs}
use Rattle.newt_pages.proofs.hand.bring.Goals as goal

pub returns-then-promote-clause-caches : goal.returns-then-promote-clause-caches
returns-then-promote-clause-caches g c = λ tells.
    let img = image c.args.journal.now.unit (g.H.Host.outside c.args.host.now).now in
    cached-promoted c.args.journal.now img (nat_eq c.args.at) c.args.cache.now.entries c.promote.new.self.entries (ap (λ (k : LruCache ℕ (List ℕ)). k.entries) c.promote.ensures.entries) (c.requires.caches tells)

pub returns-in_err-read_at-clause-caches : goal.returns-in_err-read_at-clause-caches
returns-in_err-read_at-clause-caches g c = λ tells.
    let img = image c.args.journal.now.unit (g.H.Host.outside c.args.host.now).now in
    cached-promoted c.args.journal.now img (nat_eq c.args.at) c.args.cache.now.entries c.promote.new.self.entries (ap (λ (k : LruCache ℕ (List ℕ)). k.entries) c.promote.ensures.entries) (c.requires.caches tells)

pub returns-in_err-read_at-clause-reads : goal.returns-in_err-read_at-clause-reads
returns-in_err-read_at-clause-reads g c = record {
  moment = c.read_at.ensures.reads.moment;
  alone = c.read_at.ensures.reads.alone;
  costs =
      let o = g.H.Host.outside in
      fetch-costs c.args.journal.now.unit _ c.args.at c.args.cache.now.entries (o c.args.host.now) (o c.read_at.new.host) (sym c.promote.ensures.value ∙ c.if-promote.false) c.told-spare c.read_at.ensures.reads.costs;
  wears = search rules;
  faults = search rules;
}

pub returns-in-Ok-clause-caches : goal.returns-in-Ok-clause-caches
returns-in-Ok-clause-caches g c = λ tells payloads is e there.
    let j = c.args.journal.now in
    let img = image j.unit (g.H.Host.outside c.args.host.now).now in
    let old = cached-promoted j img (nat_eq c.args.at) c.args.cache.now.entries c.promote.new.self.entries (ap (λ (k : LruCache ℕ (List ℕ)). k.entries) c.promote.ensures.entries) (c.requires.caches tells) in
    ⊎_elim
    (λ (was : Contains c.promote.new.self.entries e). old payloads is e was)
    (λ (put : (e.0 ≡ c.args.at) × (e.1 ≡ c.read_at.new.buf)). record {
      low = subst (λ (k : ℕ). first_place j ≤ k) (sym put.0) c.requires.lies.low;
      high = subst (λ (k : ℕ). k + 512 ≤ j.end) (sym put.0) c.requires.lies.high;
      is = put.1 ∙ c.in_ok-read_at.ensures.of_records tells payloads is ∙ ap (λ (n : ℕ). recorded j payloads c.args.at n) c.told-spare ∙ ap (page_of j payloads) (sym put.0);
    })
    (put-cached c.promote.new.self c.put.new.self c.args.at c.read_at.new.buf c.in-Ok.ensures.entries e there)

pub returns-in-Ok-clause-reads : goal.returns-in-Ok-clause-reads
returns-in-Ok-clause-reads g c = record {
  moment = c.read_at.ensures.reads.moment;
  alone = c.read_at.ensures.reads.alone;
  costs =
      let o = g.H.Host.outside in
      fetch-costs c.args.journal.now.unit _ c.args.at c.args.cache.now.entries (o c.args.host.now) (o c.read_at.new.host) (sym c.promote.ensures.value ∙ c.if-promote.false) c.told-spare c.read_at.ensures.reads.costs;
  wears = search rules;
  faults = search rules;
}

pub returns-in-Err-clause-caches : goal.returns-in-Err-clause-caches
returns-in-Err-clause-caches g c = λ tells.
    let img = image c.args.journal.now.unit (g.H.Host.outside c.args.host.now).now in
    cached-promoted c.args.journal.now img (nat_eq c.args.at) c.args.cache.now.entries c.put.new.self.entries (ap (λ (k : LruCache ℕ (List ℕ)). k.entries) (c.in-Err.ensures.err ∙ c.promote.ensures.entries)) (c.requires.caches tells)

pub returns-in-Err-clause-reads : goal.returns-in-Err-clause-reads
returns-in-Err-clause-reads g c = record {
  moment = c.read_at.ensures.reads.moment;
  alone = c.read_at.ensures.reads.alone;
  costs =
      let o = g.H.Host.outside in
      fetch-costs c.args.journal.now.unit _ c.args.at c.args.cache.now.entries (o c.args.host.now) (o c.read_at.new.host) (sym c.promote.ensures.value ∙ c.if-promote.false) c.told-spare c.read_at.ensures.reads.costs;
  wears = search rules;
  faults = search rules;
}

pub returns-then-promote-clause-brings : goal.returns-then-promote-clause-brings
returns-then-promote-clause-brings g c =
    let t = nat_eq c.args.at in
    let img = image c.args.journal.now.unit (g.H.Host.outside c.args.host.now).now in
    let es = c.promote.new.self.entries in
    let moved : es ≡ promoted t c.args.cache.now.entries = ap (λ (k : LruCache ℕ (List ℕ)). k.entries) c.promote.ensures.entries in
    let found = ap (λ (es : List (ℕ × List ℕ)). is_some (lookup t es)) moved ∙ promoted-found t c.args.cache.now.entries (sym c.promote.ensures.value ∙ c.if-promote.true) in
    let page = the_some (lookup t es) found in
    record {
      found = found;
      page = λ tells payloads is. page.1 ∙ ap (λ (x : List ℕ). Some x) (cached-at c.args.journal.now img es payloads c.args.at page.0 (returns-then-promote-clause-caches g c tells) is page.1);
    }

pub returns-in-Ok-clause-brings : goal.returns-in-Ok-clause-brings
returns-in-Ok-clause-brings g c = record {
  found = ap is_some (put-found c.promote.new.self c.put.new.self c.args.at c.read_at.new.buf c.in-Ok.ensures.entries);
  page = λ tells payloads is.
      put-found c.promote.new.self c.put.new.self c.args.at c.read_at.new.buf c.in-Ok.ensures.entries ∙ ap (λ (x : List ℕ). Some x) (c.in_ok-read_at.ensures.of_records tells payloads is ∙ ap (λ (n : ℕ). recorded c.args.journal.now payloads c.args.at n) c.told-spare);
}

pub returns-then-matches-clause-caches : goal.returns-then-matches-clause-caches
returns-then-matches-clause-caches g c = λ tells.
    let img = image c.args.journal.now.unit (g.H.Host.outside c.args.host.now).now in
    cached-promoted c.args.journal.now img (nat_eq c.args.at) c.args.cache.now.entries c.promote.new.self.entries (ap (λ (k : LruCache ℕ (List ℕ)). k.entries) c.promote.ensures.entries) (c.requires.caches tells)

pub returns-then-matches-clause-reads : goal.returns-then-matches-clause-reads
returns-then-matches-clause-reads g c = record {
  moment = c.read_at.ensures.reads.moment;
  alone = c.read_at.ensures.reads.alone;
  costs =
      let o = g.H.Host.outside in
      fetch-costs c.args.journal.now.unit _ c.args.at c.args.cache.now.entries (o c.args.host.now) (o c.read_at.new.host) (sym c.promote.ensures.value ∙ c.if-promote.false) c.told-spare c.read_at.ensures.reads.costs;
  wears = search rules;
  faults = search rules;
}
