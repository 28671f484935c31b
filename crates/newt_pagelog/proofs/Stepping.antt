-- One write after another.
use Rattle.std.proofs.Common.{IsTrue, IsErr, Result, Ok, Err, ◌≡◌, ℕ, ◌+◌, ◌*◌, ◌≤◌, Bool, true, cond, List, [], ◌∷◌, ◌++◌, length, take, drop, take-append-drop, refl, sym, ◌∙◌, ap, subst, arith, append_assoc, append-nil, length-append}
use Rattle.newt_host.specs.Moments.{Moment, image, Leaves}
use Rattle.newt_host.specs.Outside.{Outside, StopsAtFault, Work}
use Rattle.std.specs.List.{flat_map, filter}
use Rattle.std.specs.Int.{to_be_bytes, w16, w32}
use Rattle.std.proofs.lemmas.List.Elements.{filter-append}
use Rattle.newt_host.proofs.Outside.{Broke-since, Touches-refl, Touches-append, Spends-refl, Spends-append, Spends-widen, Wears-refl, Wears-append, Wears-widen}
use Rattle.newt_host.proofs.Moments.{Always-last, Leaves-append, Leaves-weaken, Leaves-start}
use Rattle.newt_spec_image.specs.Pages.{Change, written_put, written_delete, written_change}
use Rattle.newt_journal.specs.Calls.{Programs, writing}
use Rattle.newt_journal.specs.Journal.{reading, ReadsAs}
use Rattle.newt_journal.specs.Draft.{IsDraftOf, IsSameRecord, HasPut, journal_of, unit_of, len_of, put_of, is_switch, payload_of, rest_of}
use Rattle.newt_journal.specs.declared.draft.Draft.{Draft}
use Rattle.newt_pagelog.specs.Steps.{IsSteady, Stays, Keeps, WritesMore, done}
use Rattle.newt_pagelog.proofs.Failing.{no-ok, on-err}

-- calls that all went well, and then another one
pub stops-over : {T E : Type 0} {r : Result T E} {u : ℕ} {a b c : Outside} → b.dev_faults u ≡ a.dev_faults u → StopsAtFault u r b c → StopsAtFault u r a c
stops-over {r = Ok x} same stops = record { later = omega (arith, same, stops.later); cause = tt; no_fault = stops.no_fault ∙ same }
stops-over {r = Err e} same stops = record { later = omega (arith, same, stops.later); cause = Broke-since same stops.cause; no_fault = tt }

pub stops-failed : {T E T' E' : Type 0} {e : E} {u : ℕ} {a b : Outside} (r : Result T' E') → IsErr r
    → StopsAtFault {T = T} u (Err e) a b → StopsAtFault u r a b
stops-failed r failed stops = record {
  later = stops.later;
  cause = on-err r stops.cause;
  no_fault = no-ok r _ failed;
}

-- what is done by one call and another
abbrev pub both : Work → Work → Work
both w v = record {
  programs = w.programs + v.programs;
  fetches = w.fetches + v.fetches;
  erases = w.erases + v.erases;
  syncs = w.syncs + v.syncs;
}

pub record NoMore (w v : Work) : Type 0 where
  pub programs : w.programs ≤ v.programs
  pub fetches : w.fetches ≤ v.fetches
  pub erases : w.erases ≤ v.erases
  pub syncs : w.syncs ≤ v.syncs

-- calls that write, one after the other
module _ {told : Bool} {unit : ℕ} where
  pub writes-weaken : {T E : Type 0} {r : Result T E} {w : Work} {P Q : List ℕ → Type 0}
      {a b : Outside} → (IsTrue told → (left : List ℕ) → P left → Q left)
      → Programs told unit w P r a b → Programs told unit w Q r a b
  writes-weaken f p = record {
    any_moment = λ tells. Leaves-weaken (f tells) (p.any_moment tells);
    alone = p.alone;
    costs = p.costs;
    wears = p.wears;
    faults = p.faults;
  }

  pub writes-widen : {T E : Type 0} {r : Result T E} {P : List ℕ → Type 0} {a b : Outside}
      (w v : Work) → NoMore w v → Programs told unit w P r a b → Programs told unit v P r a b
  writes-widen w v m p = record {
    any_moment = p.any_moment;
    alone = p.alone;
    costs = Spends-widen w.programs w.fetches v.programs v.fetches m.programs m.fetches p.costs;
    wears = Wears-widen w.erases w.syncs v.erases v.syncs m.erases m.syncs p.wears;
    faults = p.faults;
  }

  pub writes-failed : {T E T' E' : Type 0} {e : E} {w : Work} {P : List ℕ → Type 0} {a b : Outside}
      (r : Result T' E') → IsErr r → Programs {T = T} told unit w P (Err e) a b
      → Programs told unit w P r a b
  writes-failed r failed p = record {
    any_moment = p.any_moment;
    alone = p.alone;
    costs = p.costs;
    wears = p.wears;
    faults = stops-failed r failed p.faults;
  }

  pub writes-done : {T E : Type 0} {x : T} {w : Work} {P : List ℕ → Type 0} {a b : Outside}
      → Programs {E = E} told unit w P (Ok x) a b → Programs told unit w P done a b
  writes-done p = record {
    any_moment = p.any_moment;
    alone = p.alone;
    costs = p.costs;
    wears = p.wears;
    faults = record { later = p.faults.later; cause = tt; no_fault = p.faults.no_fault };
  }

  pub writes-ok : {T E : Type 0} {x : T} {w : Work} {P : List ℕ → Type 0} {a b : Outside}
      → Programs told unit w P done a b → Programs {E = E} told unit w P (Ok x) a b
  writes-ok p = record {
    any_moment = p.any_moment;
    alone = p.alone;
    costs = p.costs;
    wears = p.wears;
    faults = record { later = p.faults.later; cause = tt; no_fault = p.faults.no_fault };
  }

  pub writes-two : {T E : Type 0} {r : Result T E} {P : List ℕ → Type 0} {a b c : Outside}
      (w v : Work) → Programs told unit w P done a b → Programs told unit v P r b c
      → Programs told unit (both w v) P r a c
  writes-two w v p q = record {
    any_moment = λ tells. Leaves-append (p.any_moment tells) (q.any_moment tells);
    alone = Touches-append p.alone q.alone;
    costs = Spends-append w.programs w.fetches v.programs v.fetches p.costs q.costs;
    wears = Wears-append w.erases w.syncs v.erases v.syncs p.wears q.wears;
    faults = stops-over p.faults.no_fault q.faults;
  }

  -- calls that leave the records as they were
  pub stays-two : {T E : Type 0} {r : Result T E} {a b c : Outside} (w v : Work)
      → (IsTrue told → reading (image unit b.now) ≡ reading (image unit a.now))
      → Stays told unit w done a b → Stays told unit v r b c → Stays told unit (both w v) r a c
  stays-two w v same p q = writes-two w v p (writes-weaken (λ tells left e. e ∙ same tells) q)

pub stays-with : {T E : Type 0} {r : Result T E} {told : Bool} {u : ℕ} {a b : Outside} (w v : Work)
    → w ≡ v → Stays told u w r a b → Stays told u v r a b
stays-with {r = r} {told = told} {u = u} {a = a} {b = b} w v is s =
    subst (λ (k : Work). Stays told u k r a b) is s

pub stays-on : {T E : Type 0} {r : Result T E} {told : Bool} {w : Work} {a b : Outside} (u v : ℕ)
    → u ≡ v → Stays told u w r a b → Stays told v w r a b
stays-on {r = r} {told = told} {w = w} {a = a} {b = b} u v is s =
    subst (λ (n : ℕ). Stays told n w r a b) is s

pub steady-on : (u v : ℕ) (now : Moment) → u ≡ v → IsSteady u now → IsSteady v now
steady-on u v now is s = subst (λ (w : ℕ). IsSteady w now) is s

pub keeps-start : (told : Bool) (unit : ℕ) (o : Outside) → (IsTrue told → IsSteady unit o.now)
    → Keeps told unit 0 done o o
keeps-start told unit o steady = record {
  any_moment = λ tells. Leaves-start (steady tells);
  alone = Touches-refl unit o;
  costs = Spends-refl unit o;
  wears = Wears-refl unit o;
  faults = record { later = omega arith; cause = tt; no_fault = refl };
}

pub keeps-two : {T E : Type 0} {r : Result T E} (told : Bool) (unit m n : ℕ) (a b c : Outside)
    → (IsTrue told → reading (image unit b.now) ≡ reading (image unit a.now))
    → Keeps told unit m done a b → Keeps told unit n r b c → Keeps told unit (m + n) r a c
keeps-two told unit m n a b c same first second =
    stays-two (writing m 0 0) (writing n 0 0) same first second

pub keeps-widen : {T E : Type 0} {r : Result T E} (told : Bool) (unit m n : ℕ) (a b : Outside)
    → m ≤ n → Keeps told unit m r a b → Keeps told unit n r a b
keeps-widen told unit m n a b le k = writes-widen (writing m 0 0) (writing n 0 0)
    (record { programs = le; fetches = omega arith; erases = omega arith; syncs = omega arith }) k

-- at the end of a call that kept the records, a crash leaves them
pub steady-after : (unit : ℕ) (old new : Moment) → Leaves unit (ReadsAs (reading (image unit old))) old new → reading (image unit new) ≡ reading (image unit old) → IsSteady unit new
steady-after unit old new leaves same left may = (Always-last leaves).crash left may ∙ sym same

pub writes-none : (told : Bool) (d : Draft) (o : Outside) → IsDraftOf told d o → (IsTrue told → IsSteady (unit_of d) o.now) → WritesMore told (unit_of d) [] d d o o
writes-none told d o draft steady = record {
  draft = draft;
  put = omega arith;
  on = refl;
  holds = refl;
  len = refl;
  kind = refl;
  rest = refl;
  more = λ tells. sym (append-nil (payload_of d (image (unit_of d) o.now)));
  same = λ tells. refl;
  steady = steady;
}

pub more-two : (told : Bool) (unit : ℕ) (first second : List ℕ) (x y z : Draft) (a b c : Outside) → WritesMore told unit first x y a b → WritesMore told (unit_of y) second y z b c → WritesMore told unit (first ++ second) x z a c
more-two told unit first second x y z a b c one other' =
    let other : WritesMore told unit second y z b c = subst (λ (u : ℕ). WritesMore told u second y z b c) one.on other' in
    record {
      draft = other.draft;
      put = omega (arith, one.put, other.put, length-append first second);
      on = other.on;
      holds = other.holds ∙ one.holds;
      len = other.len ∙ one.len;
      kind = other.kind ∙ one.kind;
      rest = other.rest ∙ one.rest;
      more = λ tells. other.more tells ∙ ap (λ (l : List ℕ). l ++ second) (one.more tells) ∙ append_assoc (payload_of x (image unit a.now)) first second;
      same = λ tells. other.same tells ∙ one.same tells;
      steady = other.steady;
    }

pub writes-same : (told : Bool) (unit : ℕ) (bytes other : List ℕ) (x y : Draft) (a b : Outside) → bytes ≡ other → WritesMore told unit bytes x y a b → WritesMore told unit other x y a b
writes-same told unit bytes other x y a b is w = subst (λ (l : List ℕ). WritesMore told unit l x y a b) is w

pub put-writes : (told : Bool) (bytes : List ℕ) (x y : Draft) (a b : Outside) → IsSameRecord x y → HasPut told bytes x y a b
    → (IsTrue told → Leaves (unit_of x) (ReadsAs (reading (image (unit_of x) a.now))) a.now b.now) → WritesMore told (unit_of x) bytes x y a b
put-writes told bytes x y a b one more leaves = record {
  draft = more.draft_of;
  put = more.put;
  on = one.on;
  holds = one.holds;
  len = one.len;
  kind = one.kind;
  rest = one.rest;
  more = more.more;
  same = more.same;
  steady = λ tells. steady-after (unit_of x) a.now b.now (leaves tells) (more.same tells);
}

-- a keeps of the unit that another draft is on
pub keeps-on : {T E : Type 0} {r : Result T E} (told : Bool) (u v size : ℕ) (a b : Outside)
    → u ≡ v → Keeps told u size r a b → Keeps told v size r a b
keeps-on told u v size a b is k = stays-on u v is k

-- one more element of a list that is written
pub flat-push : {A : Type 0} (f : A → List ℕ) (xs : List A) (x : A) → flat_map f (xs ++ x ∷ []) ≡ flat_map f xs ++ f x
flat-push f [] x = append-nil (f x)
flat-push f (y ∷ xs) x = ap (λ (l : List ℕ). f y ++ l) (flat-push f xs x) ∙ sym (append_assoc (f y) (flat_map f xs) (f x))

-- so many bytes of a record have been written, and the next are
pub record Stepped (told : Bool) (unit size : ℕ) (bytes : List ℕ) (x z : Draft) (a c : Outside) : Type 0 where
  pub keeps : Keeps told unit size done a c
  pub writes : WritesMore told unit bytes x z a c

pub step : (told : Bool) (unit m n total : ℕ) (bytes more all : List ℕ) (x y z : Draft) (a b c : Outside) → all ≡ bytes ++ more → m + n ≤ total → Keeps told unit m done a b → WritesMore told unit bytes x y a b
    → Keeps told (unit_of y) n done b c → WritesMore told (unit_of y) more y z b c → Stepped told unit total all x z a c
step told unit m n total bytes more all x y z a b c is le keeps writes next wrote = record {
  keeps = keeps-widen told unit (m + n) total a c le (keeps-two told unit m n a b c writes.same keeps (keeps-on told (unit_of y) unit n b c writes.on next));
  writes = writes-same told unit (bytes ++ more) all x z a c (sym is) (more-two told unit bytes more x y z a b c writes wrote);
}

pub written-size : (n : ℕ) (page : List ℕ) → length page ≡ 512 → length (written_put (n, page)) ≡ 516
written-size n page size = omega (arith, size)

pub deletes-size : (ns : List ℕ) → length (flat_map written_delete ns) ≡ 4 * length ns
deletes-size [] = refl
deletes-size (n ∷ ns) = omega (arith, deletes-size ns, length-append (written_delete n) (flat_map written_delete ns))

pub filter-take : (p : ℕ → Bool) (ns : List ℕ) (i : ℕ) → length (filter p (take i ns)) ≤ length (filter p ns)
filter-take p ns i = omega (arith, ap (λ (l : List ℕ). length l) (ap (filter p) (sym (take-append-drop i ns)) ∙ filter-append p (take i ns) (drop i ns)), length-append (filter p (take i ns)) (filter p (drop i ns)))

pub one_deleted : (b : Bool) (n : ℕ) → b ≡ true → to_be_bytes w32 n ≡ flat_map written_delete (cond b (n ∷ []) [])
one_deleted b n e = sym (append-nil (to_be_bytes w32 n)) ∙ ap (λ (c : Bool). flat_map written_delete (cond c (n ∷ []) [])) (sym e)

-- the pieces of a payload
pub written-batch : (change : Change) (puts deletes : ℕ) → puts ≡ length change.puts → deletes ≡ length change.deletes
    → (to_be_bytes w16 puts ++ to_be_bytes w16 deletes) ++ flat_map written_put change.puts ++ flat_map written_delete change.deletes ≡ written_change change
unfolding written_change
written-batch change puts deletes p d = ap (λ (n : ℕ). (to_be_bytes w16 n ++ to_be_bytes w16 deletes) ++ flat_map written_put change.puts ++ flat_map written_delete change.deletes) p
    ∙ ap (λ (n : ℕ). (to_be_bytes w16 (length change.puts) ++ to_be_bytes w16 n) ++ flat_map written_put change.puts ++ flat_map written_delete change.deletes) d

pub written-all : (puts : List (ℕ × List ℕ)) (count : ℕ) → count ≡ length puts → (to_be_bytes w16 count ++ to_be_bytes w16 0) ++ flat_map written_put puts ≡ written_change (record { puts = puts; deletes = [] })
written-all puts count is = sym (append-nil ((to_be_bytes w16 count ++ to_be_bytes w16 0) ++ flat_map written_put puts)) ∙ written-batch (record { puts = puts; deletes = [] }) count 0 is refl
