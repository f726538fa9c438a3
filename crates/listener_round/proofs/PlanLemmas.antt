-- What a graceful restart makes of a store, as an edition of the run: its configuration, what connections are served by, or why there is none.
use Rattle.std.proofs.Common.{◌≡◌, inl, inr, ◌≤◌, ◌<◌, ◌+◌, ℕ, zero, suc, Bool, true, false, cond, nat_le, List, length, Option, None, Some, option_map, IfSome, Result, Ok, Err, refl, sym, ap, subst, ◌∙◌, arith}
use Rattle.std.proofs.lemmas.Bool.Decides.{nat_tests}
use Rattle.std.specs.Option.{option_and_then}
use Rattle.mpm_base.specs.Store.{StoreCounts, StoreTold, after_renew, bytes_of}
use Rattle.mpm_base.specs.declared.store.File.{File}
use Rattle.mpm_config.specs.Config.{Configuration, with_limits}
use Rattle.mpm_config.specs.Reading.{ConfigAndWarnings, config_of}
use Rattle.mpm_config.specs.declared.fault.ConfFault.{ConfFault}
use Rattle.http_read.specs.declared.request.Limits.{Limits}
use Rattle.file_table.specs.Site.{SeenSite}
use Rattle.file_table.specs.declared.load_fault.LoadFault.{LoadFault}
use Rattle.conn_state.specs.Known.{IsOfEdition, KnownEdition, KnownOutside}
use Rattle.restart_control.specs.Reload.{HasBadConfig, HasCause, HasLargeConfig, IsNextConfig, IsPlan, LacksSite, RefusesConfig, most_config}
use Rattle.restart_control.specs.declared.plan.Plan.{Plan}
use Rattle.restart_control.specs.declared.reload_fault.ReloadFault.{ReloadFault}
use Rattle.restart_control.specs.declared.reload_fault.ReloadFault.TheVariants as fault
use Rattle.conn_machine.specs.declared.state.State.{State}
use Rattle.listener_round.specs.Generations.{Opening, carried, config_among, config_at, config_in, edition_of_files, made_edition, renewed, head_limits_of}
use Rattle.listener_round.specs.Orders.{HasNoConfig, HasNoSite, HasShape, HasSite, IsRefusedAs, MakesSite, may_begin, shape_by}
use Rattle.listener_round.specs.OrdersInside.{reason_for}
use Rattle.listener_round.specs.StandingInside.{HasTimeout, KnowsLater, later_edition}

-- ## Editions of a store

-- a store that was renewed first goes on as one that is renewed once more
pub renewed-first : (n : ℕ) (t : StoreTold) → renewed n (after_renew t) ≡ renewed (suc n) t
renewed-first zero t = refl
renewed-first (suc n) t = ap after_renew (renewed-first n t)

renewed-at : (further : ℕ) (t : StoreTold) → renewed (further + 1) (after_renew t) ≡ renewed ((further + 1) + 1) t
renewed-at further t =
    let one : further + 1 ≡ suc further = omega arith in
    let two : (further + 1) + 1 ≡ suc (suc further) = omega arith in
    ap (λ (n : ℕ). renewed n (after_renew t)) one ∙ renewed-first (suc further) t ∙ ap (λ (n : ℕ). renewed n t) (sym two)

later-renewed : (name : List ℕ) (first : Configuration) (told told' : Option StoreTold) (further : ℕ) → told' ≡ option_map after_renew told
    → later_edition name first told (further + 1) ≡ later_edition name first told' further
later-renewed name first None told' further is = sym (ap (λ (x : Option StoreTold). later_edition name first x further) is)
later-renewed name first (Some t) told' further is =
    ap (λ (x : StoreTold). Some (made_edition first name x.files)) (sym (renewed-at further t))
    ∙ sym (ap (λ (x : Option StoreTold). later_edition name first x further) is)

later-known : (k : KnownOutside) (orders orders' : ℕ) (name : List ℕ) (first : Configuration) (told told' : Option StoreTold) → orders' ≡ orders + 1
    → told' ≡ option_map after_renew told → ((further : ℕ) → k.edition (orders + (further + 1)) ≡ later_edition name first told further)
    → (further : ℕ) → k.edition (orders' + (further + 1)) ≡ later_edition name first told' further
later-known k orders orders' name first told told' is renewed_is knows further =
    let same : orders' + (further + 1) ≡ orders + ((further + 1) + 1) = omega (arith, is) in
    ap k.edition same ∙ knows (further + 1) ∙ later-renewed name first told told' further renewed_is

-- the editions to come are known behind one more order too, for which the store was renewed
pub knows-renewed : (known : Option KnownOutside) (orders orders' : ℕ) (name : List ℕ) (first : Configuration) (told told' : Option StoreTold)
    → orders' ≡ orders + 1 → told' ≡ option_map after_renew told → KnowsLater known orders name first told → KnowsLater known orders' name first told'
knows-renewed None orders orders' name first told told' is renewed_is knows = tt
knows-renewed (Some k) orders orders' name first told told' is renewed_is knows = later-known k orders orders' name first told told' is renewed_is knows

-- ## The configuration of a plan

some-config : (few : Bool) (first : Configuration) (result : Result ConfigAndWarnings ConfFault) (read : ConfigAndWarnings) → few ≡ true → result ≡ Ok read
    → cond few (carried first result) None ≡ Some (with_limits first read.config)
some-config few first result read is accepted =
    ap (λ (b : Bool). cond b (carried first result) None) is ∙ ap (carried first) accepted

no-config : (few : Bool) (first : Configuration) (result : Result ConfigAndWarnings ConfFault) (why : ConfFault) → result ≡ Err why
    → cond few (carried first result) None ≡ None
no-config true first result why refused = ap (carried first) refused
no-config false first result why refused = refl

is-few : (text : List ℕ) → length text ≤ most_config → nat_le (length text) most_config ≡ true
is-few text few = grind (arith, nat_tests)

is-many : (text : List ℕ) → most_config < length text → nat_le (length text) most_config ≡ false
is-many text many = grind (arith, nat_tests)

config-found : (first : Configuration) (name text : List ℕ) (files : List File) (read : ConfigAndWarnings) → bytes_of name files ≡ Some text
    → length text ≤ most_config → config_of text ≡ Ok read → config_among first name files ≡ Some (with_limits first read.config)
config-found first name text files read found few accepted =
    ap (option_and_then (config_in first)) found
    ∙ some-config (nat_le (length text) most_config) first (config_of text) read (is-few text few) accepted

-- the store has that configuration among its files
pub next-config : (t : StoreTold) (name : List ℕ) (first c : Configuration) → IsNextConfig (Some t) name first c → config_among first name t.files ≡ Some c
next-config t name first c next =
    config-found first name next.has.text t.files next.read next.has.has.file next.has.has.few next.has.accepted
    ∙ ap (λ (x : Configuration). Some x) (sym next.carried)

-- so that edition is made of it
made-by : (t : StoreTold) (name : List ℕ) (first : Configuration) (plan : Plan) → IsPlan (Some t) name first plan
    → made_edition first name t.files ≡ Some (edition_of_files t.files plan.config)
made-by t name first plan is = ap (option_map (edition_of_files t.files)) (next-config t name first plan.config is.config)

serves-made : (t : StoreTold) (name : List ℕ) (first : Configuration) (plan : Plan) (limits : Limits) (site : SeenSite) → IsPlan (Some t) name first plan
    → limits ≡ head_limits_of plan.config → site ≡ plan.site → IsOfEdition (made_edition first name t.files) limits site
serves-made t name first plan limits site is limits_are site_is =
    subst (λ (e : Option KnownEdition). IsOfEdition e limits site) (sym (made-by t name first plan is))
    (subst (λ (x : SeenSite). IsOfEdition (Some (edition_of_files t.files plan.config)) limits x) (sym site_is)
    (record { limits_are = limits_are; site_is = is.site }))

serves-told : (told told' : Option StoreTold) (name : List ℕ) (first : Configuration) (plan : Plan) (limits : Limits) (site : SeenSite)
    → told' ≡ option_map after_renew told → IsPlan told' name first plan → limits ≡ head_limits_of plan.config → site ≡ plan.site
    → IfSome (later_edition name first told 0) (λ e. IsOfEdition e limits site)
serves-told None told' name first plan limits site renewed_is is limits_are site_is = tt
serves-told (Some t) told' name first plan limits site renewed_is is limits_are site_is =
    serves-made (after_renew t) name first plan limits site (subst (λ (x : Option StoreTold). IsPlan x name first plan) renewed_is is) limits_are site_is

-- what is served by the plan is of the edition of that order, where the type knows that
pub serves-plan : (k : KnownOutside) (orders : ℕ) (told told' : Option StoreTold) (name : List ℕ) (first : Configuration) (plan : Plan) (limits : Limits)
    (site : SeenSite) → KnowsLater (Some k) orders name first told → told' ≡ option_map after_renew told → IsPlan told' name first plan
    → limits ≡ head_limits_of plan.config → site ≡ plan.site → IfSome (k.edition (orders + 1)) (λ e. IsOfEdition e limits site)
serves-plan k orders told told' name first plan limits site knows renewed_is is limits_are site_is =
    subst (λ (x : Option (Option KnownEdition)). IfSome x (λ e. IsOfEdition e limits site)) (sym (knows 0))
    (serves-told told told' name first plan limits site renewed_is is limits_are site_is)

-- ## A plan as an order of the run

-- the store that was renewed at this order tells so
abbrev pub IsStoreOf : Opening → ℕ → Option StoreTold → Type 0
IsStoreOf o number told = told ≡ option_map (renewed number) o.store.told

-- the configuration of that edition, of a store that tells
config-behind : (first : Configuration) (name : List ℕ) (told0 told : Option StoreTold) (number : ℕ) (c : Configuration) → told ≡ option_map (renewed number) told0
    → IsNextConfig told name first c → IfSome (option_map (λ t. config_among first name (renewed number t).files) told0) (λ x. x ≡ Some c)
config-behind first name None told number c is next = tt
config-behind first name (Some t) told number c is next =
    next-config (renewed number t) name first c (subst (λ (x : Option StoreTold). IsNextConfig x name first c) is next)

if-some : {X : Type 0} (P Q : X → Type 0) (o : Option X) → ((x : X) → P x → Q x) → IfSome o P → IfSome o Q
if-some P Q None weaker holds = tt
if-some P Q (Some x) weaker holds = weaker x holds

-- the edition of that number has that configuration
abbrev pub HasConfigAt : Opening → ℕ → Configuration → Type 0
HasConfigAt o number c = IfSome (config_at o number) (λ x. x ≡ Some c)

pub config-of_order : (o : Opening) (number : ℕ) (told : Option StoreTold) (name : List ℕ) (first c : Configuration) → o.name ≡ name → o.config ≡ first
    → IsStoreOf o (suc number) told → IsNextConfig told name first c → HasConfigAt o (suc number) c
config-of_order o number told name first c named configured is next =
    let here =
    subst (λ (x : List ℕ). IsNextConfig told x o.config c) (sym named) (subst (λ (x : Configuration). IsNextConfig told name x c) (sym configured) next) in
    config-behind o.config o.name o.store.told told (suc number) c is here

pub shape-of_order : (o : Opening) (number : ℕ) (c : Configuration) → HasConfigAt o number c → HasShape o number (shape_by c)
shape-of_order o number c has =
    if-some (λ x. x ≡ Some c) (λ x. option_map shape_by x ≡ Some (shape_by c)) (config_at o number) (λ x is. ap (option_map shape_by) is) has

pub timeout-of_order : (o : Opening) (number ms : ℕ) (c : Configuration) → ms ≡ c.current.stop_ms → HasConfigAt o number c → HasTimeout o number ms
timeout-of_order o number ms c same has =
    if-some (λ x. x ≡ Some c) (λ x. option_map (λ (c : Configuration). c.current.stop_ms) x ≡ Some ms) (config_at o number)
    (λ x is. ap (option_map (λ (c : Configuration). c.current.stop_ms)) is ∙ ap (λ (n : ℕ). Some n) (sym same)) has

plan-site : (o : Opening) (t : StoreTold) (plan : Plan) → IsPlan (Some t) o.name o.config plan → MakesSite o t
plan-site o t plan plans = record {
  config = plan.config;
  accepted = next-config t o.name o.config plan.config plans.config;
  site = plan.site;
  makes = plans.site;
  within = plans.within;
}

site-told : (o : Opening) (number : ℕ) (told0 told : Option StoreTold) (plan : Plan) → o.store.told ≡ told0 → told ≡ option_map (renewed number) told0
    → IsPlan told o.name o.config plan → HasSite o number
site-told o number None told plan at is plans = subst (λ (x : Option StoreTold). IfSome x (λ t. MakesSite o (renewed number t))) (sym at) tt
site-told o number (Some t) told plan at is plans =
    subst (λ (x : Option StoreTold). IfSome x (λ t. MakesSite o (renewed number t))) (sym at)
    (plan-site o (renewed number t) plan (subst (λ (x : Option StoreTold). IsPlan x o.name o.config plan) is plans))

pub site-of_order : (o : Opening) (number : ℕ) (told : Option StoreTold) (name : List ℕ) (first : Configuration) (plan : Plan) → o.name ≡ name → o.config ≡ first
    → IsStoreOf o number told → IsPlan told name first plan → HasSite o number
site-of_order o number told name first plan named configured is plans =
    site-told o number o.store.told told plan refl is
    (subst (λ (x : List ℕ). IsPlan told x o.config plan) (sym named) (subst (λ (x : Configuration). IsPlan told name x plan) (sym configured) plans))

-- ## Why there is no plan

absent-told : (name : List ℕ) (t : StoreTold) (told : Option StoreTold) → told ≡ Some t → IfSome told (λ x. bytes_of name x.files ≡ None)
    → bytes_of name t.files ≡ None
absent-told name t told is none = subst (λ (x : Option StoreTold). IfSome x (λ y. bytes_of name y.files ≡ None)) is none

refused-large : (o : Opening) (t : StoreTold) (counts counts' : StoreCounts) (why : ConfFault) → HasLargeConfig (Some t) o.name counts counts' why → HasNoConfig o t
refused-large o t counts counts' why large = record {
  text = large.large.0;
  found = large.large.1;
  refused = ap (λ (b : Bool). cond b (carried o.config (config_of large.large.0)) None) (is-many large.large.0 large.large.2);
}

refused-bad : (o : Opening) (t : StoreTold) (why : ConfFault) → HasBadConfig (Some t) o.name why → HasNoConfig o t
refused-bad o t why bad = record {
  text = bad.text;
  found = bad.has.file;
  refused = no-config (nat_le (length bad.text) most_config) o.config (config_of bad.text) why bad.refused;
}

refused-conf : (o : Opening) (t : StoreTold) (counts counts' : StoreCounts) (why : ConfFault) → RefusesConfig (Some t) o.name counts counts' why → HasNoConfig o t
refused-conf o t counts counts' why (inl large) = refused-large o t counts counts' why large
refused-conf o t counts counts' why (inr bad) = refused-bad o t why bad

refused-site : (o : Opening) (t : StoreTold) (counts counts' : StoreCounts) (why : LoadFault) (root : List ℕ)
    → LacksSite (Some t) o.name o.config counts counts' why root → HasNoSite o t
refused-site o t counts counts' why root lacks = record {
  config = lacks.config;
  accepted = next-config t o.name o.config lacks.config lacks.has;
  fault = why;
  limit = lacks.limit;
  lacks = lacks.lacks;
}

cause-told : (o : Opening) (number : ℕ) (s : State) (told0 told : Option StoreTold) (counts counts' : StoreCounts) (why : ReloadFault)
    → may_begin s ≡ true → o.store.told ≡ told0 → told ≡ option_map (renewed number) told0 → HasCause told o.name o.config counts counts' why
    → IsRefusedAs o number s (reason_for why)
cause-told o number s None told counts counts' fault.Absent may at is cause =
    (may, subst (λ (x : Option StoreTold). IfSome x (λ t. bytes_of o.name (renewed number t).files ≡ None)) (sym at) tt)
cause-told o number s (Some t) told counts counts' fault.Absent may at is cause = (
  may,
  subst (λ (x : Option StoreTold). IfSome x (λ t. bytes_of o.name (renewed number t).files ≡ None)) (sym at)
      (absent-told o.name (renewed number t) told is cause.none),
)
cause-told o number s None told counts counts' (fault.Conf why) may at is cause =
    (may, subst (λ (x : Option StoreTold). IfSome x (λ t. HasNoConfig o (renewed number t))) (sym at) tt)
cause-told o number s (Some t) told counts counts' (fault.Conf why) may at is cause = (
  may,
  subst (λ (x : Option StoreTold). IfSome x (λ t. HasNoConfig o (renewed number t))) (sym at)
      (refused-conf o (renewed number t) counts counts' why (subst (λ (x : Option StoreTold). RefusesConfig x o.name counts counts' why) is cause)),
)
cause-told o number s None told counts counts' (fault.Load why root) may at is cause =
    (may, subst (λ (x : Option StoreTold). IfSome x (λ t. HasNoSite o (renewed number t))) (sym at) tt)
cause-told o number s (Some t) told counts counts' (fault.Load why root) may at is cause = (
  may,
  subst (λ (x : Option StoreTold). IfSome x (λ t. HasNoSite o (renewed number t))) (sym at)
      (refused-site o (renewed number t) counts counts' why root (subst (λ (x : Option StoreTold). LacksSite x o.name o.config counts counts' why root) is cause)),
)
cause-told o number s told0 told counts counts' fault.StoreFault may at is cause = may
cause-told o number s told0 told counts counts' fault.NoMemory may at is cause = tt

-- the restart is refused as the run says
pub cause-of_order : (o : Opening) (number : ℕ) (s : State) (told : Option StoreTold) (name : List ℕ) (first : Configuration) (counts counts' : StoreCounts)
    (why : ReloadFault) → may_begin s ≡ true → o.name ≡ name → o.config ≡ first → IsStoreOf o number told → HasCause told name first counts counts' why
    → IsRefusedAs o number s (reason_for why)
cause-of_order o number s told name first counts counts' why may named configured is cause =
    cause-told o number s o.store.told told counts counts' why may refl is
    (subst (λ (x : List ℕ). HasCause told x o.config counts counts' why) (sym named)
    (subst (λ (x : Configuration). HasCause told name x counts counts' why) (sym configured) cause))
