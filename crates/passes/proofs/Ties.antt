-- A pass over pages is the session's own pass.
-- Assumes nothing.
use Prim.Native.Nat.{ℕ, zero, suc, ◌+◌, ◌*◌, ◌<◌, ◌≤◌}
use native.Mathlib.Omega.{arith}
use mathlib.Core.Path.{◌≡◌, refl, sym, ap, ap₂, subst, ◌∙◌}
use mathlib.Core.Bool.{Bool, true, false}
use mathlib.Core.List.{List, [], ◌∷◌, ◌++◌, append_assoc, append-nil}
use lib.Dec.{ltb, eqb}
use borrow.Author.Tests.{ne_eqb}
use lib.ListN.{length, get_or, length-append}
use Rattle.basis.specs.Choice.{pick, both}
use Rattle.basis.specs.Parts.{replaced}
use Rattle.basis.proofs.Parts.{replaced-join}
use Rattle.tags.specs.declared.Tag.{Tag}
use Rattle.tags.specs.declared.Tag.TheVariants.{Never}
use Rattle.plans.specs.Nets.{none, downstream}
use Rattle.std.specs.Prelude.{Option, Some, None}
use Rattle.states.specs.declared.Publication.{Publication}
use Rattle.states.specs.declared.MemberState.{MemberState}
use Rattle.states.specs.declared.State.{State}
use Rattle.states.specs.declared.Delivery.{Delivery}
use Rattle.states.specs.declared.Delivery.TheVariants.{Grant, Idle, Suppress}
use Rattle.states.specs.Sessions.{Member, Session, or_never, view, put, with_grant, with_bound, with_idle}
use Rattle.states.specs.Rules.{awaited, earliest, horizon, due, due_at, revision_of, bound_of}
use Rattle.states.specs.Steps.{Out, Pass, tell, each, every, to_all, visit, granting, grant_below, grants, is_empty, at_rest, confirmed, idling, idles, bounding, bounds, follow}
use Rattle.states.proofs.Every.{every-same}
use Rattle.states.proofs.Laws.{picked}
use Rattle.states.proofs.Passes.{put_all, Long, visit-long}
use Rattle.states.proofs.Counts.{idles-off, bounds-still}
use Rattle.rows.specs.Rows.{Laid, members, downstream_target, downstream_first, downstream_count}
use Rattle.rows.specs.Loops.{over_rows, over_all, delay_of}
use Rattle.rows.specs.Nets.{net_in, Ordered}
use Rattle.rows.proofs.Loops.{rows_all, where_named}
use Rattle.requests.specs.Sending.{words_of}
use Rattle.records.specs.Records.{plainly, idle_due, bound_due}
use Rattle.members.specs.Codes.{record_of}
use Rattle.members.specs.Rules.{horizon_in, bounds_in, Mild}
use Rattle.members.proofs.Codes.{state-at, state-put}
use Rattle.members.proofs.Rules.{Earliests, Completeds, horizon-rows}
use Rattle.members.proofs.Bounds.{bounds-rows}
use Rattle.members.proofs.Nets.{net_count}
use Rattle.tags.specs.Tags.{least_of}
use Rattle.transit.specs.Tags.{first_of}
use Rattle.states.specs.Records.{record_at, with_record}
use Rattle.passes.specs.Pages.{Page, posting, telling, grant_to, grant_at, grant_by, grants_in, resting, rest_at, idle_to, idle_at, bound_to, bound_at, settled_in}
use Rattle.passes.specs.Ties.{all_words, Shows}

-- ---- words
pub words_long : (d : Delivery) → length (words_of d) ≡ 7
unfolding words_of
words_long d = refl

pub all-long : (ds : List Delivery) → length (all_words ds) ≡ 7 * length ds
unfolding all_words
all-long [] = refl
all-long (d ∷ ds) = length-append (words_of d) (all_words ds) ∙ omega (arith, words_long d, all-long ds)

pub all_more : (ds : List Delivery) (d : Delivery) → all_words (ds ++ d ∷ []) ≡ all_words ds ++ words_of d
unfolding all_words
all_more [] d = append-nil (words_of d)
all_more (e ∷ ds) d = ap (λ (ws : List ℕ). words_of e ++ ws) (all_more ds d) ∙ sym (append_assoc (words_of e) (all_words ds) (words_of d))

-- one delivery more, behind those sent
pub words_more : (ds : List Delivery) (d : Delivery) (k : ℕ) (ws old : List ℕ) → k ≡ length ds → ws ≡ replaced 0 (all_words ds) old → replaced (7 * k) (words_of d) ws ≡ replaced 0 (all_words (ds ++ d ∷ [])) old
words_more ds d k ws old e h =
    let at : 7 * k ≡ 0 + length (all_words ds) = omega (arith, all-long ds) in
    ap₂ (λ (i : ℕ) (l : List ℕ). replaced i (words_of d) l) at h
    ∙ replaced-join 0 (all_words ds) (words_of d) old (omega arith)
    ∙ ap (λ (xs : List ℕ). replaced 0 xs old) (sym (all_more ds d))

pub posting-shows : (o : Out) (g : Page) (old : List ℕ) (d : Delivery) → Shows o g old → Shows (record { session = o.session; sent = o.sent ++ d ∷ [] }) (posting g d) old
posting-shows o g old d h =
    record {
      state = h.state;
      count = omega (arith, h.count, length-append o.sent (d ∷ []));
      words = words_more o.sent d g.progress.sent g.words old h.count h.words;
    }

pub telling-shows : (o : Out) (g : Page) (old : List ℕ) (i : ℕ) (m : Member) (d : Delivery) → i < length o.session.members → Shows o g old → Shows (tell o i m (d ∷ [])) (telling g i (record_of m) d) old
telling-shows o g old i m d l h =
    record {
      state = ap (λ (s : State). with_record s i (record_of m)) h.state ∙ sym (state-put o.session i m l);
      count = omega (arith, h.count, length-append o.sent (d ∷ []));
      words = words_more o.sent d g.progress.sent g.words old h.count h.words;
    }

pub record_shown : (o : Out) (g : Page) (old : List ℕ) (i : ℕ) → i < length o.session.members → Shows o g old → record_at g.progress.state i ≡ record_of (view o.session i)
record_shown o g old i l h = ap (λ (s : State). record_at s i) h.state ∙ state-at o.session i l

-- a turn that is taken or not
pub either_way : (b : Bool) (x y : Out) (f g : Page) (old : List ℕ) → Shows x f old → Shows y g old → Shows (pick b x y) (pick b f g) old
either_way true x y f g old p q = p
either_way false x y f g old p q = q

-- ---- the rules read no tags of the record itself
pub due-plain : (p : Option Publication) (m : Member) (h : Tag) → due p (plainly (record_of m)) h ≡ due p m h
unfolding due
due-plain None m h = refl
due-plain (Some p) m h = by p.next
  where
    by : (e : Option Tag) → due_at p.revision e (plainly (record_of m)) h ≡ due_at p.revision e m h
    by None = refl
    by (Some t) = refl

pub empty-length : (ts : List Tag) → eqb (length ts) 0 ≡ is_empty ts
empty-length [] = refl
empty-length (t ∷ ts) = ne_eqb (length (t ∷ ts)) 0 (λ e. omega arith)

-- a page shows a session of the plan's members, with these earliest tags and these completed
pub record Tied (b : List ℕ) (es ds : List Tag) (old : List ℕ) (o : Out) (g : Page) : Type 0 where
  pub shows : Shows o g old
  pub long : Long (members b) o
  pub earliests : Earliests (view o.session) es
  pub completeds : Completeds (view o.session) ds

-- ---- a record that keeps publication and tags keeps its earliest tag
earliest-kept : (s : Session) (j : ℕ) (m : Member) (es : List Tag) → m.publication ≡ (view s j).publication → m.transit ≡ (view s j).transit → Earliests (view s) es → Earliests (view (put s j m)) es
unfolding earliest
earliest-kept s j m es p t h =
    record { at = put_all s j m (λ i x. get_or es i Never ≡ earliest x) (h.at j ∙ ap₂ (λ (q : Option Publication) (ts : List Tag). least_of (awaited q) (first_of ts)) (sym p) (sym t)) h.at }

completed-kept : (s : Session) (j : ℕ) (m : Member) (ds : List Tag) → m.completed ≡ (view s j).completed → Completeds (view s) ds → Completeds (view (put s j m)) ds
completed-kept s j m ds c h = record { at = put_all s j m (λ i x. get_or ds i Never ≡ or_never x.completed) (h.at j ∙ ap or_never (sym c)) h.at }

-- what a pass may change: neither publication nor tags nor completed
pub record Mild-change (a : Pass) (v : ℕ → Member) (j : ℕ) : Type 0 where
  pub publication : (a.becomes v j).publication ≡ (v j).publication
  pub transit : (a.becomes v j).transit ≡ (v j).transit
  pub completed : (a.becomes v j).completed ≡ (v j).completed

module _ (b : List ℕ) (laid : Laid b) (ordered : Ordered b) (mild : Mild b) (es ds : List Tag) (old : List ℕ) where
  after-visit : (a : Pass) (o : Out) (g g' : Page) (j : ℕ) → Tied b es ds old o g → Mild-change a (view o.session) j → Shows (visit a o j) g' old → Tied b es ds old (visit a o j) g'
  unfolding visit
  after-visit a o g g' j t k h =
      let s = o.session in
      let m = a.becomes (view s) j in
      record {
        shows = h;
        long = visit-long (members b) a o j t.long;
        earliests = picked (λ (x : Out). Earliests (view x.session) es) (a.due (view s) j) (tell o j m (a.sends (view s) j ∷ [])) o (earliest-kept s j m es k.publication k.transit t.earliests) t.earliests;
        completeds = picked (λ (x : Out). Completeds (view x.session) ds) (a.due (view s) j) (tell o j m (a.sends (view s) j ∷ [])) o (completed-kept s j m ds k.completed t.completeds) t.completeds;
      }

  -- ---- grants
  to-grant : (o : Out) (g : Page) (j : ℕ) (h : Tag) → j < length o.session.members → Shows o g old
      → Shows (pick (due (view o.session j).publication (view o.session j) h) (tell o j (with_grant (view o.session j) (revision_of (view o.session j).publication) h) (Grant j (revision_of (view o.session j).publication) h ∷ [])) o)
      (grant_to g j (record_of (view o.session j)) h) old
  unfolding grant_to
  to-grant o g j h l w =
      let m = view o.session j in
      let r = revision_of m.publication in
      rw (due-plain m.publication m h)
      (either_way (due m.publication m h) (tell o j (with_grant m r h) (Grant j r h ∷ [])) o (telling g j (record_of (with_grant m r h)) (Grant j r h)) g old (telling-shows o g old j (with_grant m r h) (Grant j r h) l w) w)

  grant-path : (o : Out) (g : Page) (j : ℕ) → j < members b → Tied b es ds old o g → grant_at b es ds g j ≡ grant_to g j (record_of (view o.session j)) (horizon (net_in b) (view o.session) j)
  unfolding grant_at
  grant-path o g j l t =
      ap (λ (x : MemberState). grant_to g j x (horizon_in b es ds (or_never x.granted) j)) (record_shown o g old j (omega (arith, t.long)) t.shows)
      ∙ ap (grant_to g j (record_of (view o.session j))) (horizon-rows b laid ordered mild (view o.session) es ds t.earliests t.completeds j l)

  pub grant-tied : (o : Out) (g : Page) (j : ℕ) → j < members b → Tied b es ds old o g → Tied b es ds old (visit (granting (net_in b)) o j) (grant_at b es ds g j)
  unfolding visit
  grant-tied o g j l t =
      after-visit (granting (net_in b)) o g (grant_at b es ds g j) j t (record { publication = refl; transit = refl; completed = refl })
      (subst (λ (x : Page). Shows (visit (granting (net_in b)) o j) x old) (sym (grant-path o g j l t)) (to-grant o g j (horizon (net_in b) (view o.session) j) (omega (arith, t.long)) t.shows))

  below_tied : (o : Out) (g : Page) (first c : ℕ) → ((k : ℕ) → k < c → downstream_target b (first + k) < members b) → Tied b es ds old o g
      → Tied b es ds old (over_rows (λ x k. visit (granting (net_in b)) x (downstream_target b k)) first c o) (over_rows (grant_by b es ds) first c g)
  unfolding over_rows grant_by
  below_tied o g first zero h t = t
  below_tied o g first (suc c) h t = grant-tied _ _ (downstream_target b (first + c)) (h c (omega arith)) (below_tied o g first c (λ k l. h k (omega arith)) t)

  all-each : (i : ℕ) (d : ℕ → ℕ) (n : ℕ) (o : Out) → ((j : ℕ) → j < n → downstream (net_in b) i j ≡ ltb (d j) none)
      → over_all (where_named d (λ x j w. visit (granting (net_in b)) x j)) n o ≡ each (grant_below (net_in b) i) n o
  unfolding over_all each grant_below
  all-each i d zero o h = refl
  all-each i d (suc n) o h = rw (all-each i d n o (λ j l. h j (omega arith)), h n (omega arith)) refl

  pub below_each : (o : Out) (i : ℕ) → i < members b
      → over_rows (λ x k. visit (granting (net_in b)) x (downstream_target b k)) (downstream_first b i) (downstream_count b i) o ≡ each (grant_below (net_in b) i) (net_in b).count o
  below_each o i l =
      rows_all (downstream_target b) (λ k. 0) (downstream_first b i) (λ x j w. visit (granting (net_in b)) x j) (downstream_count b i) (members b) o (ordered.downstreams i l) (λ c q. omega arith)
      ∙ all-each i (delay_of (downstream_target b) (λ k. 0) (downstream_first b i) (downstream_count b i)) (members b) o (λ j q. ordered.below i j l q)
      ∙ ap (λ (n : ℕ). each (grant_below (net_in b) i) n o) (sym (net_count b))

  pub grants-tied : (o : Out) (g : Page) (i : ℕ) → i < members b → Tied b es ds old o g → Tied b es ds old (grants (net_in b) i o) (grants_in b es ds g i)
  unfolding grants grants_in
  grants-tied o g i l t =
      subst (λ (x : Out). Tied b es ds old x (grants_in b es ds g i)) (below_each (visit (granting (net_in b)) o i) i l)
      (below_tied (visit (granting (net_in b)) o i) (grant_at b es ds g i) (downstream_first b i) (downstream_count b i) (λ k q. (ordered.downstreams i l).inside k q) (grant-tied o g i l t))

  -- ---- Idle
  idle-path : (o : Out) (g : Page) (j : ℕ) → j < members b → Tied b es ds old o g → idle_at g j ≡ idle_to g j (record_of (view o.session j))
  unfolding idle_at
  idle-path o g j l t = ap (idle_to g j) (record_shown o g old j (omega (arith, t.long)) t.shows)

  idle-tied : (o : Out) (g : Page) (j : ℕ) → j < members b → Tied b es ds old o g → Tied b es ds old (visit idling o j) (idle_at g j)
  unfolding visit idle_to
  idle-tied o g j l t =
      let m = view o.session j in
      let r = revision_of m.publication in
      after-visit idling o g (idle_at g j) j t (record { publication = refl; transit = refl; completed = refl })
      (subst (λ (x : Page). Shows (visit idling o j) x old) (sym (idle-path o g j l t))
      (either_way (idle_due m) (tell o j (with_idle m r) (Idle j r ∷ [])) o (telling g j (record_of (with_idle m r)) (Idle j r)) g old (telling-shows o g old j (with_idle m r) (Idle j r) (omega (arith, t.long)) t.shows) t.shows))

  pub idles-tied : (o : Out) (g : Page) (n : ℕ) → n ≤ members b → Tied b es ds old o g → Tied b es ds old (each (visit idling) n o) (over_all idle_at n g)
  unfolding each over_all
  idles-tied o g zero l t = t
  idles-tied o g (suc n) l t = idle-tied (each (visit idling) n o) (over_all idle_at n g) n l (idles-tied o g n (omega arith) t)

  rest-same : (o : Out) (g : Page) (k : ℕ) → k < members b → Tied b es ds old o g → rest_at g.progress.state k ≡ at_rest (view o.session k)
  unfolding rest_at at_rest
  rest-same o g k l t =
      ap resting (record_shown o g old k (omega (arith, t.long)) t.shows)
      ∙ ap (λ (x : Bool). both (confirmed (view o.session k).publication (view o.session k).asked) x) (empty-length (view o.session k).transit)

  -- ---- bounds
  module _ (bs : List Tag) (right : bs ≡ bounds_in b es (members b)) where
    bound-path : (o : Out) (g : Page) (j : ℕ) → j < members b → Tied b es ds old o g → bound_at bs g j ≡ bound_to g j (record_of (view o.session j)) (bound_of (net_in b) (view o.session) j)
    unfolding bound_at
    bound-path o g j l t =
        ap₂ (bound_to g j) (record_shown o g old j (omega (arith, t.long)) t.shows)
        (ap (λ (x : List Tag). get_or x j Never) right ∙ bounds-rows b laid ordered mild (view o.session) es t.earliests j l)

    bound-tied : (o : Out) (g : Page) (j : ℕ) → j < members b → Tied b es ds old o g → Tied b es ds old (visit (bounding (net_in b)) o j) (bound_at bs g j)
    unfolding visit bound_to
    bound-tied o g j l t =
        let m = view o.session j in
        let h = bound_of (net_in b) (view o.session) j in
        after-visit (bounding (net_in b)) o g (bound_at bs g j) j t (record { publication = refl; transit = refl; completed = refl })
        (subst (λ (x : Page). Shows (visit (bounding (net_in b)) o j) x old) (sym (bound-path o g j l t))
        (either_way (bound_due m h) (tell o j (with_bound m h) (Suppress j h ∷ [])) o (telling g j (record_of (with_bound m h)) (Suppress j h)) g old (telling-shows o g old j (with_bound m h) (Suppress j h) (omega (arith, t.long)) t.shows) t.shows))

    pub bounds-tied : (o : Out) (g : Page) (n : ℕ) → n ≤ members b → Tied b es ds old o g → Tied b es ds old (each (visit (bounding (net_in b))) n o) (over_all (bound_at bs) n g)
    unfolding each over_all
    bounds-tied o g zero l t = t
    bounds-tied o g (suc n) l t = bound-tied (each (visit (bounding (net_in b))) n o) (over_all (bound_at bs) n g) n l (bounds-tied o g n (omega arith) t)

    -- Idle, and then no bounds; or no Idle, and bounds
    pub settled-shows : (o : Out) (g : Page) → Tied b es ds old o g → Shows (bounds (net_in b) (idles (net_in b) o)) (settled_in bs (members b) g) old
    unfolding bounds idles settled_in
    settled-shows o g t = rw same (by (every (λ k. at_rest (view o.session k)) (net_in b).count))
      where
        same : every (rest_at g.progress.state) (members b) ≡ every (λ k. at_rest (view o.session k)) (net_in b).count
        same =
            every-same (rest_at g.progress.state) (λ k. at_rest (view o.session k)) (members b) (λ k l. rest-same o g k l t)
            ∙ ap (every (λ k. at_rest (view o.session k))) (sym (net_count b))

        long : Long (net_in b).count o
        long = t.long ∙ sym (net_count b)

        idle-shown : Shows (each (visit idling) (net_in b).count o) (over_all idle_at (members b) g) old
        idle-shown = subst (λ (n : ℕ). Shows (each (visit idling) n o) (over_all idle_at (members b) g) old) (sym (net_count b)) (idles-tied o g (members b) (omega arith) t).shows

        bound-shown : Shows (each (visit (bounding (net_in b))) (net_in b).count o) (over_all (bound_at bs) (members b) g) old
        bound-shown = subst (λ (n : ℕ). Shows (each (visit (bounding (net_in b))) n o) (over_all (bound_at bs) (members b) g) old) (sym (net_count b)) (bounds-tied o g (members b) (omega arith) t).shows

        still : each (visit (bounding (net_in b))) (net_in b).count (each (visit idling) (net_in b).count o) ≡ each (visit idling) (net_in b).count o
        still = bounds-still (net_in b) (each (visit idling) (net_in b).count o) (idles-off (net_in b) o long (net_in b).count (omega arith)) (net_in b).count (omega arith)

        by : (x : Bool) → Shows (each (visit (bounding (net_in b))) (net_in b).count (pick x (each (visit idling) (net_in b).count o) o)) (pick x (over_all idle_at (members b) g) (over_all (bound_at bs) (members b) g)) old
        by true = subst (λ (y : Out). Shows y (over_all idle_at (members b) g) old) (sym still) idle-shown
        by false = bound-shown

  pub follow-shows : (o : Out) (g : Page) (i : ℕ) → i < members b → Tied b es ds old o g → Shows (follow (net_in b) i o) (settled_in (bounds_in b es (members b)) (members b) (grants_in b es ds g i)) old
  follow-shows o g i l t = settled-shows (bounds_in b es (members b)) refl (grants (net_in b) i o) (grants_in b es ds g i) (grants-tied o g i l t)

-- ---- to all
pub all-shows : (f : Page → ℕ → Page) (d : ℕ → Delivery) → ((g : Page) (k : ℕ) → f g k ≡ posting g (d k)) → (o : Out) (g : Page) (old : List ℕ) (n : ℕ) → Shows o g old
    → Shows (record { session = o.session; sent = o.sent ++ to_all d n }) (over_all f n g) old
unfolding to_all over_all
all-shows f d e o g old zero h = rw (append-nil o.sent) h
all-shows f d e o g old (suc n) h =
    rw (e (over_all f n g) n, ← append_assoc o.sent (to_all d n) (d n ∷ []))
    (posting-shows (record { session = o.session; sent = o.sent ++ to_all d n }) (over_all f n g) old (d n) (all-shows f d e o g old n h))
