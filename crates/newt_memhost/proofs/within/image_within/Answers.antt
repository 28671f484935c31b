use Rattle.std.proofs.Common.{◌≡◌, ◌⊎◌, ◌<◌, ℕ, List, take, length, sym, ◌∙◌, ap, subst, arith}
use Rattle.std.proofs.lemmas.Result.{IfOk-weaker}
use Rattle.newt_host.specs.Moments.{Moment, LeftBy, changes, IsHistory}
use Rattle.newt_memhost.specs.Happened.{moment_of, total}
use Rattle.newt_memhost.specs.Past.{picked, within}
use Rattle.newt_memhost.specs.Within.{moment_within}
use Rattle.newt_memhost.specs.declared.happened.Happened.{Happened}
use Rattle.newt_memhost.specs.declared.log.Log.{Log}
use Rattle.newt_memhost.specs.declared.images.Crash.{Crash}
use Rattle.newt_memhost.proofs.Torn.{past-at, total-take, leaves-within}
use Rattle.newt_memhost.proofs.within.image_within.Goals as goal

-- the part of the log that was lent is the log up to the call
up_to : (log : Log) (entries : List Happened) (store : List ℕ) (call end : ℕ) → entries ≡ log.entries.items → store ≡ log.store.items → take end entries ≡ within call entries → moment_of (take end entries) store ≡ moment_within call log
up_to log entries store call end same stored part =
    ap (λ (l : List ℕ). moment_of (take end entries) l) stored ∙ ap (λ (l : List Happened). moment_of l log.store.items) (part ∙ ap (λ (l : List Happened). within call l) same)

past_there : (log : Log) (entries : List Happened) (store : List ℕ) (unit end size : ℕ) → entries ≡ log.entries.items → store ≡ log.store.items
    → (length (changes unit (moment_of log.entries.items log.store.items)) ≡ 0) ⊎ IsHistory size (changes unit (moment_of log.entries.items log.store.items))
    → (length (changes unit (moment_of (take end entries) store)) ≡ 0) ⊎ IsHistory size (changes unit (moment_of (take end entries) store))
past_there log entries store unit end size same stored past =
    past-at entries store end unit size
    (subst (λ (l : List ℕ). (length (changes unit (moment_of entries l)) ≡ 0) ⊎ IsHistory size (changes unit (moment_of entries l))) (sym stored)
    (subst (λ (l : List Happened). (length (changes unit (moment_of l log.store.items)) ≡ 0) ⊎ IsHistory size (changes unit (moment_of l log.store.items))) (sym same) past))

pub build-requires-clause-stored : goal.build-requires-clause-stored
build-requires-clause-stored c =
    let part = total-take c.as_slice-entries.result.now c.end_of.result in
    omega (arith, part, ap total c.as_slice-entries.ensures.value ∙ c.args.log.now.used, ap length c.deref.ensures.value)

pub build-requires-clause-past : goal.build-requires-clause-past
build-requires-clause-past c =
    (c.requires.0, past_there c.args.log.now c.as_slice-entries.result.now c.deref.result.now c.args.unit c.end_of.result c.requires.0 c.as_slice-entries.ensures.value c.deref.ensures.value c.requires.1)

pub returns-clause-left : goal.returns-clause-left
returns-clause-left c =
    let m = moment_within c.args.call c.args.log.now in
    let here = up_to c.args.log.now c.as_slice-entries.result.now c.deref.result.now c.args.call c.end_of.result c.as_slice-entries.ensures.value c.deref.ensures.value c.end_of.ensures.within in
    let past = past_there c.args.log.now c.as_slice-entries.result.now c.deref.result.now c.args.unit c.end_of.result c.requires.0 c.as_slice-entries.ensures.value c.deref.ensures.value c.requires.1 in
    let past_m : (length (changes c.args.unit m) ≡ 0) ⊎ IsHistory c.requires.0 (changes c.args.unit m) = subst (λ (k : Moment). (length (changes c.args.unit k) ≡ 0) ⊎ IsHistory c.requires.0 (changes c.args.unit k)) here past in
    let leaves : (crash : Crash) → crash.image.items ≡ picked c.args.pick (changes c.args.unit (moment_of (take c.end_of.result c.as_slice-entries.result.now) c.deref.result.now)) → 0 < length (changes c.args.unit m) → LeftBy (changes c.args.unit m) crash.image.items =
    λ crash is some. leaves-within c.args.pick c.args.unit m crash.image.items (c.requires.0, past_m) (is ∙ ap (λ (k : Moment). picked c.args.pick (changes c.args.unit k)) here) some in
    IfOk-weaker c.build.result (λ crash. crash.image.items ≡ picked c.args.pick (changes c.args.unit (moment_of (take c.end_of.result c.as_slice-entries.result.now) c.deref.result.now)))
    (λ crash. 0 < length (changes c.args.unit m) → LeftBy (changes c.args.unit m) crash.image.items) leaves c.build.ensures.image
