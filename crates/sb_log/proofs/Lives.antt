-- What holds in a log's life.
use Rattle.std.proofs.Common.{◌≡◌, ℕ, ◌-◌, ◌≤◌, max, min, true, false, List, [], ◌∷◌, ◌++◌, length, take, drop, refl, sym, ap, subst, ◌∙◌, arith, rules, append_assoc, length-append}
use Rattle.std.specs.List.{All}
use Rattle.std.proofs.Math.Seq.{take-append-add}
use Rattle.std.proofs.lemmas.List.{append-nil, take_at, take-append-drop}
use Rattle.std.proofs.lemmas.List.Elements.{All-head, All-nil, All-push, All-take}
use Rattle.sb_log.specs.Lives.{Event, Append, AppendFails, Sync, SyncFails, Crash, Cut, ReadBack, Life, newborn, Happens, HappensAll, KeepsWhatItTold, TellsForGood}
use Rattle.sb_log.specs.Reading.{Begins, IsTorn, ReadsRecords}
use Rattle.sb_log.specs.Records.{IsBody, body_bytes, record_after, records, records_after}
use Rattle.sb_log.proofs.Readings.{read_begins, rest_is_torn, told_begins}
use Rattle.sb_log.proofs.Records.{records_join, records_push}

-- what always holds
record Sound (l : Life) : Type 0 where
  fit : All IsBody l.given
  -- the file is a beginning of the records that were given
  missing : List ℕ
  part : l.content ++ missing ≡ records l.given
  told : Begins l.told l.given
  -- what was told is in it, and synced
  there : (more : List ℕ) × (l.content ≡ records l.told ++ more)
  synced : length (records l.told) ≤ l.synced
  whole : l.healthy ≡ true → l.content ≡ records l.given

begins_all : {A : Type 0} (xs : List A) → Begins xs xs
begins_all xs = ([], sym (append-nil xs))

begins_more : {A : Type 0} (xs ys zs : List A) → Begins xs ys → Begins xs (ys ++ zs)
begins_more xs ys zs b = (b.0 ++ zs, ap (λ l. l ++ zs) b.1 ∙ append_assoc xs b.0 zs)

begins_through : {A : Type 0} (xs ys zs : List A) → Begins xs ys → Begins ys zs → Begins xs zs
begins_through xs ys zs b c = (b.0 ++ c.0, c.1 ∙ ap (λ l. l ++ c.0) b.1 ∙ append_assoc xs b.0 c.0)

sound_at_birth : Sound newborn
sound_at_birth = record {
  fit = All-nil IsBody;
  missing = [];
  part = refl;
  told = ([], refl);
  there = ([], refl);
  synced = omega arith;
  whole = λ healthy. refl;
}

-- a beginning of a file that has all that was told, and has it still
cut_short : (told more : List ℕ) (k : ℕ) → length told ≤ k → take k (told ++ more) ≡ told ++ take (k - length told) more
cut_short told more k le =
    ap (λ n. take n (told ++ more)) (omega (arith, le)) ∙ take-append-add told more (k - length told)

appended : (l : Life) (body : List ℕ) → Sound l → l.healthy ≡ true → IsBody body
    → Sound (record l { content = l.content ++ record_after (body_bytes l.given) body; given = l.given ++ body ∷ [] })
appended l body s healthy fits =
    let last = record_after (body_bytes l.given) body in
    let all : l.content ++ last ≡ records (l.given ++ body ∷ []) =
    ap (λ (c : List ℕ). c ++ last) (s.whole healthy) ∙ sym (records_push l.given body) in
    record {
      fit = All-push IsBody l.given body s.fit fits;
      missing = [];
      part = append-nil (l.content ++ last) ∙ all;
      told = begins_more l.told l.given (body ∷ []) s.told;
      there = (s.there.0 ++ last, ap (λ (c : List ℕ). c ++ last) s.there.1 ∙ append_assoc (records l.told) s.there.0 last);
      synced = s.synced;
      whole = λ again. all;
    }

torn : (l : Life) (body : List ℕ) (kept : ℕ) → Sound l → l.healthy ≡ true → IsBody body
    → Sound (record l { content = l.content ++ take kept (record_after (body_bytes l.given) body); given = l.given ++ body ∷ []; healthy = false })
torn l body kept s healthy fits =
    let last = record_after (body_bytes l.given) body in
    let part = take kept last in
    record {
      fit = All-push IsBody l.given body s.fit fits;
      missing = drop kept last;
      part = append_assoc l.content part (drop kept last) ∙ ap (λ (r : List ℕ). l.content ++ r) (take-append-drop kept last)
          ∙ ap (λ (c : List ℕ). c ++ last) (s.whole healthy) ∙ sym (records_push l.given body);
      told = begins_more l.told l.given (body ∷ []) s.told;
      there = (s.there.0 ++ part, ap (λ (c : List ℕ). c ++ part) s.there.1 ∙ append_assoc (records l.told) s.there.0 part);
      synced = s.synced;
      whole = λ again. absurd (search (rules, again));
    }

synced_all : (l : Life) → Sound l → l.healthy ≡ true → Sound (record l { synced = length l.content; told = l.given })
synced_all l s healthy =
    let whole = s.whole healthy in
    record {
      fit = s.fit;
      missing = s.missing;
      part = s.part;
      told = begins_all l.given;
      there = ([], whole ∙ sym (append-nil (records l.given)));
      synced = omega (arith, ap length whole);
      whole = s.whole;
    }

failed : (l : Life) → Sound l → Sound (record l { healthy = false })
failed l s = record {
  fit = s.fit;
  missing = s.missing;
  part = s.part;
  told = s.told;
  there = s.there;
  synced = s.synced;
  whole = λ again. absurd (search (rules, again));
}

crashed : (l : Life) (kept : ℕ) → Sound l → Sound (record l { content = take (max l.synced kept) l.content; healthy = false })
crashed l kept s =
    let k = max l.synced kept in
    record {
      fit = s.fit;
      missing = drop k l.content ++ s.missing;
      part = sym (append_assoc (take k l.content) (drop k l.content) s.missing)
          ∙ ap (λ (c : List ℕ). c ++ s.missing) (take-append-drop k l.content) ∙ s.part;
      told = s.told;
      there = (
        take (k - length (records l.told)) s.there.0,
        ap (λ c. take k c) s.there.1 ∙ cut_short (records l.told) s.there.0 k (omega (arith, s.synced)),
      );
      synced = s.synced;
      whole = λ again. absurd (search (rules, again));
    }

read_back : (bodies : List (List ℕ)) → All IsBody bodies
    → Sound (record { content = records bodies; synced = length (records bodies); given = bodies; told = bodies; healthy = true })
read_back bodies fit = record {
  fit = fit;
  missing = [];
  part = append-nil (records bodies);
  told = begins_all bodies;
  there = ([], sym (append-nil (records bodies)));
  synced = omega arith;
  whole = λ again. refl;
}

fit_front : (told given : List (List ℕ)) → Begins told given → All IsBody given → All IsBody told
fit_front told given b fit = subst (All IsBody) (take_at told b.0 (length told) refl)
    (All-take IsBody (length told) (told ++ b.0) (subst (All IsBody) b.1 fit))

-- which bodies are behind those that are read, and that the rest begins their records
read_of : (l : Life) (bodies : List (List ℕ)) (rest : List ℕ) (s : Sound l) → ReadsRecords l.content bodies rest
    → (behind : List (List ℕ)) × (l.given ≡ bodies ++ behind) × (rest ++ s.missing ≡ records_after (body_bytes bodies) behind) × All IsBody behind
read_of l bodies rest s r =
    read_begins [] bodies l.given (rest ++ s.missing) r.fit s.fit
    (sym (append_assoc (records bodies) rest s.missing) ∙ ap (λ (c : List ℕ). c ++ s.missing) (sym r.whole) ∙ s.part)

told_read : (l : Life) (bodies : List (List ℕ)) (rest : List ℕ) → Sound l → ReadsRecords l.content bodies rest → Begins l.told bodies
told_read l bodies rest s r =
    told_begins [] l.told bodies rest s.there.0 (fit_front l.told l.given s.told s.fit) r.fit r.longest (sym s.there.1 ∙ r.whole)

-- what is read of a sound log
keeps : (l : Life) (bodies : List (List ℕ)) (rest : List ℕ) → Sound l → ReadsRecords l.content bodies rest
    → Begins l.told bodies × Begins bodies l.given × IsTorn rest
keeps l bodies rest s r =
    let read = read_of l bodies rest s r in (
      told_read l bodies rest s r,
      (read.0, read.1),
      rest_is_torn (body_bytes bodies) rest s.missing read.0 read.3 r.longest read.2,
    )

-- all that is given is read, if nothing is missing
all_read : (bodies behind : List (List ℕ)) (rest : List ℕ) → All IsBody behind
    → ((body more : List ℕ) → IsBody body → rest ≡ record_after (body_bytes bodies) body ++ more → ⊥)
    → rest ≡ records_after (body_bytes bodies) behind → behind ≡ []
all_read bodies [] rest fit longest e = refl
all_read bodies (b ∷ behind) rest fit longest e =
    absurd (longest b (records_after (body_bytes bodies ++ b) behind) (All-head IsBody b behind fit) e)

whole_read : (l : Life) (bodies : List (List ℕ)) (rest : List ℕ) → Sound l → ReadsRecords l.content bodies rest → l.content ≡ records l.given → l.given ≡ bodies
whole_read l bodies rest s r whole =
    let read = read_begins [] bodies l.given rest r.fit s.fit (sym r.whole ∙ whole) in
    read.1 ∙ ap (λ (b : List (List ℕ)). bodies ++ b) (all_read bodies read.0 rest read.3 r.longest read.2) ∙ append-nil bodies

cut_off : (l : Life) (bodies : List (List ℕ)) (rest : List ℕ) → Sound l → ReadsRecords l.content bodies rest
    → Sound (record l { content = records bodies; synced = min (length (records bodies)) l.synced })
cut_off l bodies rest s r =
    let begins = told_read l bodies rest s r in
    let there : records bodies ≡ records l.told ++ records_after (body_bytes l.told) begins.0 =
    ap records begins.1 ∙ records_join [] l.told begins.0 in
    record {
      fit = s.fit;
      missing = rest ++ s.missing;
      part = sym (append_assoc (records bodies) rest s.missing) ∙ ap (λ (c : List ℕ). c ++ s.missing) (sym r.whole) ∙ s.part;
      told = s.told;
      there = (records_after (body_bytes l.told) begins.0, there);
      synced = omega (arith, s.synced, ap length there, length-append (records l.told) (records_after (body_bytes l.told) begins.0));
      whole = λ healthy. ap records (sym (whole_read l bodies rest s r (s.whole healthy)));
    }

sound_after : (l m : Life) (event : Event) → Sound l → Happens l event m → Sound m
sound_after l m (Append body) s h = subst Sound (sym h.2) (appended l body s h.0 h.1)
sound_after l m (AppendFails body kept) s h = subst Sound (sym h.2) (torn l body kept s h.0 h.1)
sound_after l m Sync s h = subst Sound (sym h.1) (synced_all l s h.0)
sound_after l m SyncFails s h = subst Sound (sym h.1) (failed l s)
sound_after l m (Crash kept) s h = subst Sound (sym h) (crashed l kept s)
sound_after l m (Cut bodies rest) s h = subst Sound (sym h.2) (cut_off l bodies rest s h.0)
sound_after l m (ReadBack bodies rest) s h = subst Sound (sym h.2) (read_back bodies h.0.fit)

sound_after_all : (events : List Event) (l m : Life) → Sound l → HappensAll l events m → Sound m
sound_after_all [] l m s h = subst Sound (sym h) s
sound_after_all (event ∷ events) l m s h = sound_after_all events h.0 m (sound_after l h.0 event s h.1) h.2

pub keeps_what_it_told : KeepsWhatItTold
keeps_what_it_told events l bodies rest h r = keeps l bodies rest (sound_after_all events newborn l sound_at_birth h) r

told_on : (l m : Life) (event : Event) → Sound l → Happens l event m → Begins l.told m.told
told_on l m (Append body) s h = subst (λ (n : Life). Begins l.told n.told) (sym h.2) (begins_all l.told)
told_on l m (AppendFails body kept) s h = subst (λ (n : Life). Begins l.told n.told) (sym h.2) (begins_all l.told)
told_on l m Sync s h = subst (λ (n : Life). Begins l.told n.told) (sym h.1) s.told
told_on l m SyncFails s h = subst (λ (n : Life). Begins l.told n.told) (sym h.1) (begins_all l.told)
told_on l m (Crash kept) s h = subst (λ (n : Life). Begins l.told n.told) (sym h) (begins_all l.told)
told_on l m (Cut bodies rest) s h = subst (λ (n : Life). Begins l.told n.told) (sym h.2) (begins_all l.told)
told_on l m (ReadBack bodies rest) s h = subst (λ (n : Life). Begins l.told n.told) (sym h.2) (told_read l bodies rest s h.0)

told_on_all : (events : List Event) (l m : Life) → Sound l → HappensAll l events m → Begins l.told m.told
told_on_all [] l m s h = subst (λ (n : Life). Begins l.told n.told) (sym h) (begins_all l.told)
told_on_all (event ∷ events) l m s h =
    begins_through l.told h.0.told m.told (told_on l h.0 event s h.1) (told_on_all events h.0 m (sound_after l h.0 event s h.1) h.2)

pub tells_for_good : TellsForGood
tells_for_good before after l m b a = told_on_all after l m (sound_after_all before newborn l sound_at_birth b) a
