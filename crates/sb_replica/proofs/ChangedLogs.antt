-- A change of a replica's log is one of the replica.
use Rattle.std.proofs.Common.{◌≡◌, Result, Ok, Err, ap, subst, ◌∙◌}
use Rattle.std.specs.Prelude.{MatchResult}
use Rattle.sb_replica.specs.Log.{LogOf}
use Rattle.sb_replica.specs.Replica.{ReplicaOf, log_of, with_log}

changes : {S A E : Type 0} (old : ReplicaOf S) (new : LogOf) (result : Result A E) (after : LogOf → A → LogOf)
    → MatchResult result (λ answer. new ≡ after (log_of old) answer) (λ _. new ≡ log_of old)
    → MatchResult result (λ answer. with_log old new ≡ with_log old (after (log_of old) answer)) (λ _. with_log old new ≡ old)
changes old new (Ok answer) after h = ap (with_log old) h
changes old new (Err fault) after h = ap (with_log old) h

pub answered_log_changes : {S A E : Type 0} {old now : ReplicaOf S} (new : LogOf) (result : Result A E) (after : LogOf → A → LogOf) → old ≡ now
    → MatchResult result (λ answer. new ≡ after (log_of old) answer) (λ _. new ≡ log_of old)
    → MatchResult result (λ answer. with_log old new ≡ with_log now (after (log_of now) answer)) (λ _. with_log old new ≡ now)
answered_log_changes {S} {A} {E} {old} {now} new result after same h =
    subst (λ (r : ReplicaOf S). MatchResult result (λ answer. with_log old new ≡ with_log r (after (log_of r) answer)) (λ _. with_log old new ≡ r)) same
    (changes old new result after h)

pub log_changes : {S : Type 0} {old now : ReplicaOf S} {new : LogOf} (after : ReplicaOf S → LogOf) → old ≡ now → new ≡ after old
    → with_log old new ≡ with_log now (after now)
log_changes {S} {old} {now} {new} after same h = ap (with_log old) h ∙ ap (λ (r : ReplicaOf S). with_log r (after r)) same
