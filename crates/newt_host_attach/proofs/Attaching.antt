-- One name after another.
use Rattle.std.proofs.Common.{◌≡◌, ◌≢◌, ◌⊎◌, inl, inr, ℕ, zero, suc, ◌+◌, ◌<◌, ◌≤◌, Bool, true, false, IsTrue, IsFalse, List, [], ◌∷◌, length, map, Option, Some, None, refl, sym, ◌∙◌, ap, subst, get_or, set, replicate, arith}
use Rattle.std.specs.Prelude.{slice_get, is_some, option_map}
use Rattle.std.proofs.lemmas.Bool.{cases_lt}
use Rattle.std.proofs.lemmas.List.{get_or-set_same, get_or-set_other}
use Rattle.std.proofs.lemmas.Option.{slice_get_past, slice_get-map, slice_get_read}
use Rattle.newt_host.specs.Meanings.{known}
use Rattle.newt_host.specs.Moments.{Always, here, later as one_more, Attached, On, Moment, Change, changes, output, taken}
use Rattle.newt_host.specs.Outside.{Outside, AttachCall, Attaches, SameCards, SameCounts}
use Rattle.newt_host.proofs.Outside.{SameCounts-append, SameWork-refl}
use Rattle.newt_host.proofs.Moments.{Always-last, changes-same, changes-other}
use Rattle.newt_host_attach.specs.Named.{AreDistinct, AreAttached, if_known}

-- So far the first names have been attached.
pub record Attaching (told : Bool) (names : List (List ℕ)) (done : ℕ) (old now : Outside) : Type 0 where
  pub devices : (name : List ℕ) → now.devices name ≡ old.devices name
  pub later : (unit : ℕ) → done ≤ unit → now.card unit ≡ None
  pub own : (unit : ℕ) (name : List ℕ) → now.card unit ≡ Some name → slice_get names unit ≡ Some name
  pub cards : IsTrue told → (unit : ℕ) → unit < done → now.card unit ≡ if_known old (slice_get names unit)
  pub begins : IsTrue told → (unit : ℕ) (name : List ℕ) → now.card unit ≡ Some name
      → (bytes : List ℕ) × (old.devices name ≡ Some bytes) × (changes unit now.now ≡ Attached bytes ∷ [])
  pub unread : IsTrue told → Always (λ m. taken m ≡ taken old.now) old.now now.now
  pub quiet : IsTrue told → output now.now ≡ output old.now
  pub input : now.input ≡ old.input
  pub in_faults : now.in_faults ≡ old.in_faults
  pub out_faults : now.out_faults ≡ old.out_faults
  pub counts : SameCounts old now

some_none : {A : Type 0} (x : A) (o : Option A) → o ≡ Some x → o ≡ None → ⊥
some_none x o is none = absurd (cc)

pub attaching_start : (told : Bool) (names : List (List ℕ)) (old : Outside) → ((unit : ℕ) → old.card unit ≡ None) → Attaching told names 0 old old
attaching_start told names old free = record {
  devices = λ name. refl;
  later = λ unit le. free unit;
  own = λ unit name is. absurd (some_none name (old.card unit) is (free unit));
  cards = λ tells unit less. absurd (omega (arith, less));
  begins = λ tells unit name is. absurd (some_none name (old.card unit) is (free unit));
  unread = λ tells. here refl;
  quiet = λ tells. refl;
  input = refl;
  in_faults = refl;
  out_faults = refl;
  counts = record { dev_faults = λ unit. refl; work = λ unit. SameWork-refl unit old };
}

-- no unit has the next name yet
pub next_free : (told : Bool) (names : List (List ℕ)) (done : ℕ) (old now : Outside) (name : List ℕ) → AreDistinct names → Attaching told names done old now
    → slice_get names done ≡ Some name → (unit : ℕ) → now.card unit ≢ Some name
next_free told names done old now name distinct a at unit is =
    let same : unit ≡ done = distinct unit done name (a.own unit name is) at in
    some_none name (now.card unit) is (a.later unit (omega (arith, same)))

equal_or_not : (a b : ℕ) → (a ≡ b) ⊎ (a ≢ b)
equal_or_not a b = elim (cases_lt a b) [
  | inl less ↦ inr (λ e. absurd (omega (arith, less, e)))
  | inr le ↦ elim (cases_lt b a) [ inl more ↦ inr (λ e. absurd (omega (arith, more, e))) | inr same ↦ inl (omega (arith, le, same)) ]
]

not_known : (name : List ℕ) (o : Option (List ℕ)) → is_some o ≡ false → option_map (λ (bytes : List ℕ). name) o ≡ None
not_known name None e = refl
not_known name (Some bytes) e = absurd (cc)

module _ (told : Bool) (names : List (List ℕ)) (done : ℕ) (old mid now : Outside) (name : List ℕ) (at : slice_get names done ≡ Some name) (a : Attaching told names done old mid)
    (call : AttachCall mid now) where
  -- there is a device of the next name
  attaching_yes : (IsTrue told → changes done mid.now ≡ []) → Attaches told done name mid now → Attaching told names (done + 1) old now
  attaching_yes fresh fits = record {
    devices = λ n. fits.devices n ∙ a.devices n;
    later = λ unit le. fits.other_cards unit (λ e. absurd (omega (arith, le, e))) ∙ a.later unit (omega (arith, le));
    own = λ unit other is. own unit other is (equal_or_not unit done);
    cards = λ tells unit less. cards tells unit less (equal_or_not unit done);
    begins = λ tells unit other is. begins tells unit other is (equal_or_not unit done);
    unread = λ tells.
        let so_far = a.unread tells in
        subst (λ (m : Moment). Always (λ n. taken n ≡ taken old.now) old.now m) (sym (fits.moment tells).2)
        (one_more (On done (Attached (fits.moment tells).0)) mid.now so_far (Always-last so_far));
    quiet = λ tells. ap output (fits.moment tells).2 ∙ a.quiet tells;
    input = call.input ∙ a.input;
    in_faults = call.in_faults ∙ a.in_faults;
    out_faults = call.out_faults ∙ a.out_faults;
    counts = SameCounts-append a.counts call.counts;
  }
    where
      named : (unit : ℕ) (other : List ℕ) → now.card unit ≡ Some other → unit ≡ done → name ≡ other
      named unit other is e = let there : Some name ≡ Some other = sym fits.card ∙ (ap (λ (u : ℕ). now.card u) (sym e) ∙ is) in cc

      own : (unit : ℕ) (other : List ℕ) → now.card unit ≡ Some other → (unit ≡ done) ⊎ (unit ≢ done) → slice_get names unit ≡ Some other
      own unit other is (inl e) = ap (λ (u : ℕ). slice_get names u) e ∙ (at ∙ ap Some (named unit other is e))
      own unit other is (inr differ) = a.own unit other (sym (fits.other_cards unit differ) ∙ is)

      cards : IsTrue told → (unit : ℕ) → unit < done + 1 → (unit ≡ done) ⊎ (unit ≢ done) → now.card unit ≡ if_known old (slice_get names unit)
      cards tells unit less (inl e) =
          ap (λ (u : ℕ). now.card u) e ∙ (fits.card ∙ sym (ap (λ (u : ℕ). if_known old (slice_get names u)) e ∙ (ap (if_known old) at ∙ ap (option_map (λ (bytes : List ℕ). name)) (sym (a.devices name) ∙ (fits.moment tells).1))))
      cards tells unit less (inr differ) = fits.other_cards unit differ ∙ a.cards tells unit (omega (arith, less, differ))

      begins : IsTrue told → (unit : ℕ) (other : List ℕ) → now.card unit ≡ Some other → (unit ≡ done) ⊎ (unit ≢ done)
          → (bytes : List ℕ) × (old.devices other ≡ Some bytes) × (changes unit now.now ≡ Attached bytes ∷ [])
      begins tells unit other is (inl e) =
          let there = fits.moment tells in (
            there.0,
            ap old.devices (sym (named unit other is e)) ∙ (sym (a.devices name) ∙ there.1),
            ap (λ (m : Moment). changes unit m) there.2 ∙ (ap (λ (u : ℕ). changes u (On done (Attached there.0) ∷ mid.now)) e
                ∙ (changes-same done (Attached there.0) mid.now ∙ ap (λ (cs : List Change). Attached there.0 ∷ cs) (fresh tells))),
          )
      begins tells unit other is (inr differ) =
          let was = a.begins tells unit other (sym (fits.other_cards unit differ) ∙ is) in
          let there = fits.moment tells in
          (was.0, was.1, ap (λ (m : Moment). changes unit m) there.2 ∙ (changes-other done unit (Attached there.0) mid.now differ ∙ was.2))

  -- there is none
  attaching_no : (IsTrue told → known mid name ≡ false) → SameCards mid now → (IsTrue told → now.now ≡ mid.now) → Attaching told names (done + 1) old now
  attaching_no unknown same moment = record {
    devices = λ n. same.devices n ∙ a.devices n;
    later = λ unit le. same.card unit ∙ a.later unit (omega (arith, le));
    own = λ unit other is. a.own unit other (sym (same.card unit) ∙ is);
    cards = λ tells unit less. cards tells unit less (equal_or_not unit done);
    begins = λ tells unit other is. let was = a.begins tells unit other (sym (same.card unit) ∙ is) in (was.0, was.1, ap (λ (m : Moment). changes unit m) (moment tells) ∙ was.2);
    unread = λ tells. subst (λ (m : Moment). Always (λ n. taken n ≡ taken old.now) old.now m) (sym (moment tells)) (a.unread tells);
    quiet = λ tells. ap output (moment tells) ∙ a.quiet tells;
    input = call.input ∙ a.input;
    in_faults = call.in_faults ∙ a.in_faults;
    out_faults = call.out_faults ∙ a.out_faults;
    counts = SameCounts-append a.counts call.counts;
  }
    where
      cards : IsTrue told → (unit : ℕ) → unit < done + 1 → (unit ≡ done) ⊎ (unit ≢ done) → now.card unit ≡ if_known old (slice_get names unit)
      cards tells unit less (inl e) =
          same.card unit ∙ (a.later unit (omega (arith, e)) ∙ sym (ap (λ (u : ℕ). if_known old (slice_get names u)) e ∙ (ap (if_known old) at
          ∙ not_known name (old.devices name) (ap is_some (sym (a.devices name)) ∙ unknown tells))))
      cards tells unit less (inr differ) = same.card unit ∙ a.cards tells unit (omega (arith, less, differ))

  -- whether there is one or not
  pub attaching_next : (answer : Bool) → (IsTrue told → changes done mid.now ≡ []) → (IsTrue told → answer ≡ known mid name) → (IsTrue answer → Attaches told done name mid now)
      → (IsFalse answer → SameCards mid now × (IsTrue told → now.now ≡ mid.now)) → Attaching told names (done + 1) old now
  attaching_next true fresh is fits lacks = attaching_yes fresh (fits refl)
  attaching_next false fresh is fits lacks = let none = lacks refl in attaching_no (λ tells. sym (is tells)) none.0 none.1

  -- which units have a device
  pub flags_next : (answer : Bool) (flags : List Bool) → (IsTrue answer → Attaches told done name mid now) → (IsFalse answer → SameCards mid now × (IsTrue told → now.now ≡ mid.now))
      → done < length flags → ((unit : ℕ) → get_or flags unit false ≡ is_some (mid.card unit)) → (unit : ℕ) → get_or (set flags done answer) unit false ≡ is_some (now.card unit)
  flags_next answer flags fits lacks within before unit = go (equal_or_not unit done)
    where
      here : (b : Bool) → (IsTrue b → Attaches told done name mid now) → (IsFalse b → SameCards mid now × (IsTrue told → now.now ≡ mid.now)) → b ≡ is_some (now.card done)
      here true fits lacks = sym (ap is_some (fits refl).card)
      here false fits lacks = sym (ap is_some ((lacks refl).0.card done ∙ a.later done (omega arith)))

      there : (b : Bool) → (IsTrue b → Attaches told done name mid now) → (IsFalse b → SameCards mid now × (IsTrue told → now.now ≡ mid.now)) → unit ≢ done → now.card unit ≡ mid.card unit
      there true fits lacks differ = (fits refl).other_cards unit differ
      there false fits lacks differ = (lacks refl).0.card unit

      go : (unit ≡ done) ⊎ (unit ≢ done) → get_or (set flags done answer) unit false ≡ is_some (now.card unit)
      go (inl e) = ap (λ (u : ℕ). get_or (set flags done answer) u false) e ∙ (get_or-set_same flags done answer false within ∙ (here answer fits lacks ∙ ap (λ (u : ℕ). is_some (now.card u)) (sym e)))
      go (inr differ) = get_or-set_other flags done unit answer false differ ∙ (before unit ∙ ap is_some (sym (there answer fits lacks differ)))

-- all of them have been attached
pub attaching_all : (told : Bool) (names : List (List ℕ)) (old now : Outside) → Attaching told names (length names) old now → AreAttached told names old now
attaching_all told names old now a = record {
  own = a.own;
  cards = λ tells unit. elim (cases_lt unit (length names)) [
    | inl less ↦ a.cards tells unit less
    | inr le ↦ a.later unit le ∙ sym (ap (if_known old) (slice_get_past names unit le))
  ];
  begins = a.begins;
  unread = a.unread;
  quiet = a.quiet;
  input = a.input;
  in_faults = a.in_faults;
  out_faults = a.out_faults;
  counts = a.counts;
}

all_false : (n unit : ℕ) → get_or (replicate n false) unit false ≡ false
all_false zero unit = refl
all_false (suc n) zero = refl
all_false (suc n) (suc unit) = all_false n unit

-- no unit has a device yet
pub flags_start : (old : Outside) → ((unit : ℕ) → old.card unit ≡ None) → (unit : ℕ) → get_or (false ∷ false ∷ false ∷ false ∷ false ∷ false ∷ false ∷ false ∷ []) unit false ≡ is_some (old.card unit)
flags_start old free unit = all_false 8 unit ∙ sym (ap is_some (free unit))

-- the name at a place
pub name_at : {A : Type 0} (view : A → List ℕ) (names : List A) (number : ℕ) (name : A) (text : List ℕ) → number < length names → name ≡ get_or names number name → text ≡ view name
    → slice_get (map view names) number ≡ Some text
name_at view names number name text within is e =
    slice_get-map view names number ∙ (ap (option_map view) (slice_get_read names (length names) number name refl within is) ∙ ap Some (sym e))
