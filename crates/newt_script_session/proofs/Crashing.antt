-- From what a crash leaves in one command to what it leaves in a script.
use Rattle.std.proofs.Common.{◌≡◌, ◌⊎◌, inr, ℕ, zero, suc, ◌+◌, ◌-◌, ◌<◌, ◌≤◌, Bool, true, false, List, [], ◌∷◌, ◌++◌, length, Option, Ok, Err, refl, sym, ◌∙◌, ap, subst, append_assoc, append-nil, arith}
use Rattle.std.specs.Prelude.{drop}
use Rattle.std.proofs.lemmas.List.{length-append}
use Rattle.newt_host.specs.Moments.{Moment, Change, LeftBy, MayLeave, Always, here, changes, output as printed}
use Rattle.newt_host.specs.Outside.{PrintsSome}
use Rattle.newt_host.proofs.Moments.{Always-map}
use Rattle.newt_host.proofs.Printing.{changes-printed, output-printed}
use Rattle.newt_base.specs.declared.Refusal.{Refusal}
use Rattle.newt_laws_steps.specs.Answering.{Answering, ReadsOneOf}
use Rattle.newt_spec_graph.specs.Lists.{Among}
use Rattle.newt_spec_graph.proofs.Lists.{among-left}
use Rattle.newt_spec_script.specs.Rows.{Row, output_of, world_at, last_world}
use Rattle.newt_spec_script.specs.Script.{Item}
use Rattle.newt_spec_store.specs.Store.{Store}
use Rattle.newt_spec_world.specs.Reply.{Reply, reply_line, reply_text}
use Rattle.newt_spec_whole.specs.Whole.{Whole, stores_on, IsBlankOn}
use Rattle.newt_spec_world.specs.declared.command.Command.{Command}
use Rattle.newt_script_session.specs.Counted.{CountedAt}
use Rattle.newt_script_session.specs.Moments.{LeftAfter, Between, BlankThrough, CrashAt, Fresh, Leaves, SafeAt, Untouched, item_formats, replies_begun, begun, worlds_passed}
use Rattle.newt_script_session.specs.Stream.{put_out}

some_text : (r : Reply) → 0 < length (reply_text r)
some_text r = subst (λ n. 0 < n) (sym (length-append (reply_line r) (10 ∷ []))) (omega arith)

-- what a crash may leave goes by what has happened to the unit
pub left_same : (unit : ℕ) (left : List ℕ) (old now : Moment) → changes unit now ≡ changes unit old → MayLeave unit now left → MayLeave unit old left
left_same unit left old now same may = subst (λ (done : List Change). LeftBy done left) same may

pub prints_changes : (bytes : List ℕ) (old now : Moment) → PrintsSome bytes old now → (unit : ℕ) → changes unit now ≡ changes unit old
prints_changes bytes old now some unit = ap (λ (m : Moment). changes unit m) some.moment ∙ changes-printed unit some.done old

-- ---- what is put out

-- of nothing
pub none_put : (shows : Bool) (out : List ℕ) → out ++ put_out shows [] ≡ out
none_put true out = append-nil out
none_put false out = append-nil out

-- of one text after another
pub both_put : (shows : Bool) (a b : List ℕ) → put_out shows (a ++ b) ≡ put_out shows a ++ put_out shows b
both_put true a b = refl
both_put false a b = refl

-- of a first part
part_put : (shows : Bool) (text done rest : List ℕ) → put_out shows text ≡ done ++ rest → (part : List ℕ) × (done ≡ put_out shows part) × (length part ≤ length text)
part_put true text done rest e =
    let sizes : length text ≡ length done + length rest = ap length e ∙ length-append done rest in
    (done, refl, omega arith)
part_put false text done rest e = ([], nil done e, omega arith)
  where
    nil : (d : List ℕ) → [] ≡ d ++ rest → d ≡ []
    nil [] k = refl
    nil (x ∷ xs) k = absurd (cc)

-- ---- one item

-- While an item leads from a world to the next, from a moment on: nothing is put out, and a crash leaves each unit as in the one world or in the other.
pub record AnsweringItem (reads : List ℕ → Option Store) (world : Whole) (item : Item) (next : Whole) (start now : Moment) : Type 0 where
  pub quiet : printed now ≡ printed start
  pub stores : (unit : ℕ) (s : Store) (left : List ℕ) → Among (stores_on world unit) s → MayLeave unit now left → ReadsOneOf reads (stores_on world unit ++ stores_on next unit) left
  pub others : (unit : ℕ) (left : List ℕ) → IsBlankOn world unit → (item_formats world item unit ≡ false) ⊎ IsBlankOn next unit → MayLeave unit now left → MayLeave unit start left

-- a command
pub answering_command : (reads : List ℕ → Option Store) (world : Whole) (command : Command) (next : Whole) (old now : Moment) → Always (Answering reads world.world command next.world old) old now
    → Always (AnsweringItem reads world (Ok command) next old) old now
answering_command reads world command next old now a = Always-map (λ m s. record { quiet = s.quiet; stores = s.stores; others = s.others }) a

-- a line that is refused: nothing is done
pub answering_refusal : (reads : List ℕ → Option Store) (world : Whole) (refusal : Refusal) (now : Moment)
    → ((unit : ℕ) (s : Store) (left : List ℕ) → Among (stores_on world unit) s → MayLeave unit now left → ReadsOneOf reads (stores_on world unit) left)
    → Always (AnsweringItem reads world (Err refusal) world now) now now
answering_refusal reads world refusal now leaves = here (record {
  quiet = refl;
  stores = λ unit s left among may. let r = leaves unit s left among may in (r.0, among-left (stores_on world unit) (stores_on world unit) r.0 r.1, r.2);
  others = λ unit left blank none may. may;
})

-- ---- one unit

-- A crash leaves a unit as it is in the world: as one of its stores, and where F says that it held none before, and it holds none, as at first.
pub record LeavesIts (reads : List ℕ → Option Store) (AtFirst : List ℕ → Type 0) (F : Type 0) (world : Whole) (unit : ℕ) (left : List ℕ) : Type 0 where
  pub stores : (s : Store) → Among (stores_on world unit) s → ReadsOneOf reads (stores_on world unit) left
  pub blank : F → IsBlankOn world unit → AtFirst left

module _ (reads : List ℕ → Option Store) (AtFirst : List ℕ → Type 0) where
  pub its_before : (F : Type 0) (world : Whole) (items : List Item) (next : Whole) (unit : ℕ) (left : List ℕ) → LeavesIts reads AtFirst F world unit left → Between reads AtFirst F world items next unit left
  its_before F world items next unit left its = record {
    stores = λ s among. let r = its.stores s among in (r.0, among-left (stores_on world unit) (stores_on next unit) r.0 r.1, r.2);
    blank = λ f b none. its.blank f b;
  }

  weaken : (F Less : Type 0) (world : Whole) (items : List Item) (next : Whole) (unit : ℕ) (left : List ℕ) → (Less → F) → Between reads AtFirst F world items next unit left → Between reads AtFirst Less world items next unit left
  weaken F Less world items next unit left f b = record { stores = b.stores; blank = λ l. b.blank (f l) }

module _ (reads : List ℕ → Option Store) (start : Moment) (before : List Whole) where
  -- between two commands
  pub its_now : (world : Whole) (now : Moment) → Untouched start before world now
      → ((unit : ℕ) (s : Store) (left : List ℕ) → Among (stores_on world unit) s → MayLeave unit now left → ReadsOneOf reads (stores_on world unit) left)
      → (unit : ℕ) (left : List ℕ) → MayLeave unit now left → LeavesIts reads (MayLeave unit start) (Fresh before unit) world unit left
  its_now world now untouched leaves unit left may = record {
    stores = λ s among. leaves unit s left among may;
    blank = λ f b. untouched unit left f b may;
  }

  -- while an item is answered, whatever items follow
  pub answering_leaves : (world : Whole) (item : Item) (later : List Item) (next : Whole) (old now : Moment) → Untouched start before world old → AnsweringItem reads world item next old now
      → (unit : ℕ) (left : List ℕ) → MayLeave unit now left → Between reads (MayLeave unit start) (Fresh before unit) world (item ∷ later) next unit left
  answering_leaves world item later next old now untouched a unit left may = record {
    stores = λ s among. a.stores unit s left among may;
    blank = λ f b none. untouched unit left f b (a.others unit left b none may);
  }

  -- an item has been answered
  pub untouched_next : (world : Whole) (item : Item) (next : Whole) (old now : Moment) → Untouched start before world old → AnsweringItem reads world item next old now → Untouched start (world ∷ before) next now
  untouched_next world item next old now untouched a unit left f b may = untouched unit left f.1 f.0 (a.others unit left f.0 (inr b) may)

-- a crash leaves each unit as it is in the world, whenever the script began and whatever worlds it went through
abbrev pub AtRest : (List ℕ → Option Store) → Whole → Moment → Type 0
AtRest reads world now = (start : Moment) (before : List Whole) → Untouched start before world now → (unit : ℕ) (left : List ℕ) → MayLeave unit now left
    → LeavesIts reads (MayLeave unit start) (Fresh before unit) world unit left

pub at_rest : (reads : List ℕ → Option Store) (world : Whole) (now : Moment)
    → ((unit : ℕ) (s : Store) (left : List ℕ) → Among (stores_on world unit) s → MayLeave unit now left → ReadsOneOf reads (stores_on world unit) left) → AtRest reads world now
at_rest reads world now leaves = λ start before u. its_now reads start before world now u leaves

-- nothing has happened to any unit since
pub untouched_same : (start : Moment) (before : List Whole) (world : Whole) (old now : Moment) → ((unit : ℕ) → changes unit now ≡ changes unit old) → Untouched start before world old → Untouched start before world now
untouched_same start before world old now same untouched = λ unit left f b may. untouched unit left f b (left_same unit left old now (same unit) may)

module _ (reads : List ℕ → Option Store) (start : Moment) where
  -- before any reply has begun
  pub leaves_first : (F : Type 0) (world : Whole) (items : List Item) (rows : List (Row Whole)) (unit : ℕ) (left : List ℕ) → LeavesIts reads (MayLeave unit start) F world unit left
      → Leaves reads start F world items rows 0 unit left
  unfolding Leaves
  leaves_first F world items [] unit left its = its_before reads (MayLeave unit start) F world items world unit left its
  leaves_first F world items (row ∷ rows) unit left its = its_before reads (MayLeave unit start) F world items row.0 unit left its

  leaves_next : (F : Type 0) (world : Whole) (items : List Item) (row : Row Whole) (rows : List (Row Whole)) (unit : ℕ) (left : List ℕ) → Between reads (MayLeave unit start) F world items row.0 unit left
      → Leaves reads start F world items (row ∷ rows) 0 unit left
  unfolding Leaves
  leaves_next F world items row rows unit left b = b

  -- after a whole reply
  leaves_after : (F : Type 0) (world : Whole) (item : Item) (items : List Item) (row : Row Whole) (rows : List (Row Whole)) (n m unit : ℕ) (left : List ℕ) → 0 < n → n - length (reply_text row.1) ≡ m
      → Leaves reads start (IsBlankOn world unit × F) row.0 items rows m unit left → Leaves reads start F world (item ∷ items) (row ∷ rows) n unit left
  unfolding Leaves
  leaves_after F world item items row rows zero m unit left some e l = absurd (omega arith)
  leaves_after F world item items row rows (suc n) m unit left some e l = subst (λ (k : ℕ). Leaves reads start (IsBlankOn world unit × F) row.0 items rows k unit left) (sym e) l

  -- within a reply
  leaves_within : (F : Type 0) (world : Whole) (item : Item) (items : List Item) (row : Row Whole) (rows : List (Row Whole)) (n unit : ℕ) (left : List ℕ) → n ≤ length (reply_text row.1)
      → Between reads (MayLeave unit start) F world (item ∷ items) row.0 unit left → LeavesIts reads (MayLeave unit start) (IsBlankOn world unit × F) row.0 unit left
      → Leaves reads start F world (item ∷ items) (row ∷ rows) n unit left
  leaves_within F world item items row rows zero unit left fits b its = leaves_next F world (item ∷ items) row rows unit left b
  leaves_within F world item items row rows (suc n) unit left fits b its =
      leaves_after F world item items row rows (suc n) 0 unit left (omega arith) (omega arith) (leaves_first (IsBlankOn world unit × F) row.0 items rows unit left its)

-- ---- moments

module _ (shows : Bool) (reads : List ℕ → Option Store) (start : Moment) (before : List Whole) where
  -- between two commands
  pub safe_here : (world : Whole) (now : Moment) → ((unit : ℕ) (left : List ℕ) → MayLeave unit now left → LeavesIts reads (MayLeave unit start) (Fresh before unit) world unit left)
      → SafeAt shows reads start before world [] [] (printed now) now
  safe_here world now its = record {
    shown = [];
    out = sym (none_put shows (printed now));
    safe = λ later more unit left may. leaves_first reads start (Fresh before unit) world later more unit left (its unit left may);
  }

  -- while an item is answered
  pub safe_answering : (world : Whole) (item : Item) (row : Row Whole) (old now : Moment) → Untouched start before world old → AnsweringItem reads world item row.0 old now
      → SafeAt shows reads start before world (item ∷ []) (row ∷ []) (printed old) now
  safe_answering world item row old now untouched a = record {
    shown = [];
    out = a.quiet ∙ sym (none_put shows (printed old));
    safe = λ later more unit left may. leaves_next reads start (Fresh before unit) world (item ∷ later) row more unit left (answering_leaves reads start before world item later row.0 old now untouched a unit left may);
  }

  -- while its reply is put out, or kept
  pub safe_writing : (world : Whole) (item : Item) (row : Row Whole) (old mid now : Moment) → printed mid ≡ printed old
      → ((later : List Item) (unit : ℕ) (left : List ℕ) → MayLeave unit mid left → Between reads (MayLeave unit start) (Fresh before unit) world (item ∷ later) row.0 unit left)
      → ((unit : ℕ) (left : List ℕ) → MayLeave unit mid left → LeavesIts reads (MayLeave unit start) (Fresh (world ∷ before) unit) row.0 unit left)
      → PrintsSome (put_out shows (reply_text row.1)) mid now → SafeAt shows reads start before world (item ∷ []) (row ∷ []) (printed old) now
  safe_writing world item row old mid now same between its some =
      let text = reply_text row.1 in
      let part = part_put shows text some.done some.rest some.split in
      record {
        shown = part.0;
        out = ap printed some.moment ∙ (output-printed some.done mid ∙ (ap (λ o. o ++ some.done) same ∙ ap (λ t. printed old ++ t) part.1));
        safe = λ later more unit left may.
            let then = left_same unit left mid now (prints_changes (put_out shows text) mid now some unit) may in
            leaves_within reads start (Fresh before unit) world item later row more (length part.0) unit left part.2 (between later unit left then) (its unit left then);
      }

  -- more items and rows follow
  pub safe_more : (world : Whole) (items later : List Item) (rows more : List (Row Whole)) (old : List ℕ) (now : Moment) → SafeAt shows reads start before world items rows old now
      → SafeAt shows reads start before world (items ++ later) (rows ++ more) old now
  safe_more world items later rows more old now s = record {
    shown = s.shown;
    out = s.out;
    safe = λ rest others unit left may.
        subst (λ (is : List Item). Leaves reads start (Fresh before unit) world is ((rows ++ more) ++ others) (length s.shown) unit left) (sym (append_assoc items later rest))
        (subst (λ (rs : List (Row Whole)). Leaves reads start (Fresh before unit) world (items ++ (later ++ rest)) rs (length s.shown) unit left) (sym (append_assoc rows more others))
        (s.safe (later ++ rest) (more ++ others) unit left may));
  }

module _ (shows : Bool) (reads : List ℕ → Option Store) (start : Moment) where
  -- the moments of later rows
  safe_later : (before : List Whole) (world : Whole) (item : Item) (items : List Item) (row : Row Whole) (rows : List (Row Whole)) (old : List ℕ) (now : Moment)
      → SafeAt shows reads start (world ∷ before) row.0 items rows (old ++ put_out shows (reply_text row.1)) now → SafeAt shows reads start before world (item ∷ items) (row ∷ rows) old now
  safe_later before world item items row rows old now s =
      let text = reply_text row.1 in
      let size : length (text ++ s.shown) ≡ length text + length s.shown = length-append text s.shown in
      let some = some_text row.1 in
      record {
        shown = text ++ s.shown;
        out = s.out ∙ (append_assoc old (put_out shows text) (put_out shows s.shown) ∙ ap (λ t. old ++ t) (sym (both_put shows text s.shown)));
        safe = λ later more unit left may.
            leaves_after reads start (Fresh before unit) world item (items ++ later) row (rows ++ more) (length (text ++ s.shown)) (length s.shown) unit left
            (omega (arith, some, size)) (omega (arith, size)) (s.safe later more unit left may);
      }

  pub safe_laters : (before : List Whole) (world : Whole) (first : List Item) (done : List (Row Whole)) (items : List Item) (more : List (Row Whole)) (old : List ℕ) (now : Moment) → length done ≡ length first
      → SafeAt shows reads start (worlds_passed before world done) (last_world world done) items more (old ++ put_out shows (output_of done)) now
      → SafeAt shows reads start before world (first ++ items) (done ++ more) old now
  unfolding output_of
  safe_laters before world [] [] items more old now size s = subst (λ (o : List ℕ). SafeAt shows reads start before world items more o now) (none_put shows old) s
  safe_laters before world [] (row ∷ done) items more old now size s = absurd (omega arith)
  safe_laters before world (item ∷ first) [] items more old now size s = absurd (omega arith)
  safe_laters before world (item ∷ first) (row ∷ done) items more old now size s =
      let text = reply_text row.1 in
      let next = row.0 in
      let sizes : length done ≡ length first = omega arith in
      safe_later before world item (first ++ items) row (done ++ more) old now
      (safe_laters (world ∷ before) next first done items more (old ++ put_out shows text) now sizes
      (subst (λ (o : List ℕ). SafeAt shows reads start (worlds_passed (world ∷ before) next done) (last_world next done) items more o now)
      (ap (λ t. old ++ t) (both_put shows text (output_of done)) ∙ sym (append_assoc old (put_out shows text) (put_out shows (output_of done)))) s))

-- ---- what is said of a whole script

module _ (reads : List ℕ → Option Store) (start : Moment) where
  blank_more : (world : Whole) (row : Row Whole) (rows : List (Row Whole)) (m unit : ℕ) → BlankThrough world (row ∷ rows) (suc m) unit → IsBlankOn world unit × BlankThrough row.0 rows m unit
  blank_more world row rows m unit b = (b 0 (omega arith), λ k fits. b (suc k) (omega arith))

  drop_one : (k : ℕ) (items : List Item) → drop (suc k) items ≡ drop k (drop 1 items)
  drop_one zero [] = refl
  drop_one (suc k) [] = refl
  drop_one k (item ∷ items) = refl

  counted : (F : Type 0) (world : Whole) (items : List Item) (rows : List (Row Whole)) (n unit : ℕ) (left : List ℕ) → Leaves reads start F world items rows n unit left
      → let m = replies_begun rows n in Between reads (MayLeave unit start) (F × BlankThrough world rows m unit) (world_at world rows m) (drop m items) (world_at world rows (m + 1)) unit left
  unfolding Leaves begun
  counted F world items [] n unit left l = weaken reads (MayLeave unit start) F (F × BlankThrough world [] 0 unit) world items world unit left (λ f. f.0) l
  counted F world items (row ∷ rows) zero unit left l = weaken reads (MayLeave unit start) F (F × BlankThrough world (row ∷ rows) 0 unit) world items row.0 unit left (λ f. f.0) l
  counted F world items (row ∷ rows) (suc n) unit left l =
      let k = replies_begun rows (suc n - length (reply_text row.1)) in
      let e : suc k + 1 ≡ suc (k + 1) = omega arith in
      let Less : Type 0 = F × BlankThrough world (row ∷ rows) (suc k) unit in
      let P : ℕ → List Item → Type 0 = λ j is. Between reads (MayLeave unit start) Less (world_at row.0 rows k) is (world_at world (row ∷ rows) j) unit left in
      subst (λ (j : ℕ). P j (drop (suc k) items)) (sym e) (subst (P (suc (k + 1))) (sym (drop_one k items))
      (weaken reads (MayLeave unit start) ((IsBlankOn world unit × F) × BlankThrough row.0 rows k unit) Less (world_at row.0 rows k) (drop k (drop 1 items)) (world_at row.0 rows (k + 1)) unit left
      (λ f. let r = blank_more world row rows k unit f.1 in ((r.0, f.0), r.1))
      (counted (IsBlankOn world unit × F) row.0 (drop 1 items) rows (suc n - length (reply_text row.1)) unit left l)))

  -- at the start no world was before
  pub after_at : (world : Whole) (items : List Item) (rows : List (Row Whole)) (n unit : ℕ) (left : List ℕ) → Leaves reads start (Fresh [] unit) world items rows n unit left
      → LeftAfter reads (MayLeave unit start) world items rows (replies_begun rows n) unit left
  after_at world items rows n unit left l =
      let m = replies_begun rows n in
      weaken reads (MayLeave unit start) (Fresh [] unit × BlankThrough world rows m unit) (BlankThrough world rows m unit) (world_at world rows m) (drop m items) (world_at world rows (m + 1)) unit left (λ b. (tt, b))
      (counted (Fresh [] unit) world items rows n unit left l)

  pub crash_always : (world : Whole) (items : List Item) (rows : List (Row Whole)) (old now : Moment) → Always (SafeAt true reads start [] world items rows (printed old)) old now
      → Always (CrashAt reads start world items rows (printed old)) old now
  crash_always world items rows old now a = Always-map (λ m s. record {
    shown = s.shown;
    out = s.out;
    leaves = λ later more unit left may. after_at world (items ++ later) (rows ++ more) (length s.shown) unit left (s.safe later more unit left may);
  }) a

  -- where the replies are not put out, so many of the items have been answered as have replies that have begun
  pub counted_always : (world : Whole) (items first rest : List Item) → items ≡ first ++ rest → (rows : List (Row Whole)) (old : List ℕ) (from now : Moment) → Always (SafeAt false reads start [] world first rows old) from now
      → Always (CountedAt reads start world items rows old) from now
  counted_always world items first rest split rows old from now a = Always-map (λ m s. record {
    shown = [];
    out = s.out;
    leaves = λ later more. (
      replies_begun (rows ++ more) (length s.shown),
      (λ some. absurd (omega (arith, some))),
      (λ unit left may.
          subst (λ (is : List Item). LeftAfter reads (MayLeave unit start) world is (rows ++ more) (replies_begun (rows ++ more) (length s.shown)) unit left)
          (sym (append_assoc first rest later) ∙ ap (λ (is : List Item). is ++ later) (sym split))
          (after_at world (first ++ (rest ++ later)) (rows ++ more) (length s.shown) unit left (s.safe (rest ++ later) more unit left may))),
    );
  }) a

-- after all rows, where the unit held no store in the worlds up to there
pub fresh_through : (world : Whole) (rows more : List (Row Whole)) (n unit : ℕ) (before : List Whole) → length rows ≡ n → Fresh before unit → BlankThrough world (rows ++ more) n unit → Fresh (worlds_passed before world rows) unit
fresh_through world [] more n unit before size fresh b = fresh
fresh_through world (row ∷ rows) more zero unit before size fresh b = absurd (omega arith)
fresh_through world (row ∷ rows) more (suc n) unit before size fresh b =
    let sizes : length rows ≡ n = omega arith in
    fresh_through row.0 rows more n unit (world ∷ before) sizes (b 0 (omega arith), fresh) (λ k fits. b (suc k) (omega arith))

-- a crash leaves the unit as it is in the world, under the name that the world has in a run
pub its_at : (reads : List ℕ → Option Store) (AtFirst : List ℕ → Type 0) (F Less : Type 0) (last world : Whole) (items : List Item) (next : Whole) (unit : ℕ) (left : List ℕ) → last ≡ world → (Less → F)
    → LeavesIts reads AtFirst F last unit left → Between reads AtFirst Less world items next unit left
its_at reads AtFirst F Less last world items next unit left e f its =
    subst (λ (v : Whole). Between reads AtFirst Less v items next unit left) e (weaken reads AtFirst F Less last items next unit left f (its_before reads AtFirst F last items next unit left its))
