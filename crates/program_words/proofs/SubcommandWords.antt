-- What the words after the subcommand say is what all words say.
use Rattle.std.proofs.Common.{◌≡◌, ℕ, ◌≤◌, ◌-◌, ◌∷◌, [], List, String, arith, length, length-drop, take, drop, subst, map, string_bytes}
use Rattle.std.proofs.lemmas.List.{take_all}
use Rattle.std.specs.Prelude.{codes}
use Rattle.program_words.specs.Words.{GivesAsk, GivesCheckpoint, GivesLog, GivesServe, IsOfOptions, IsSecond}
use Rattle.program_words.specs.declared.words.Words.TheVariants.{Run, Serve, Log, Ask, Checkpoint}
use Rattle.program_words.specs.declared.words.ask.AskWords.{AskWords}
use Rattle.program_words.specs.declared.words.checkpoint.CheckpointWords.{CheckpointWords}
use Rattle.program_words.specs.declared.words.log.LogWords.{LogWords}
use Rattle.program_words.specs.declared.words.run.RunWords.{RunWords}
use Rattle.program_words.specs.declared.words.serve.ServeWords.{ServeWords}
use Rattle.program_words.specs.inner.WordValues.{IsAskOf, IsReadOf, IsRunOf, IsServeOf}

module _ {A : Type 0} where
  -- the words behind the second one
  abbrev pub behind : List (String A) → List (String A)
  behind words = take (length words - 2) (drop 2 words)

  all_behind : (So : List (String A) → Type 0) (words : List (String A)) → 2 ≤ length words → So (behind words) → So (drop 2 words)
  all_behind So words long so =
      let all : behind words ≡ drop 2 words = take_all (length words - 2) (drop 2 words) (omega (arith, length-drop 2 words)) in
      subst So all so

  of_drop : (So : List (String A) → Type 0) (word : List ℕ) (words : List (String A)) → IsSecond word words → So (drop 2 words) → IsOfOptions So words
  of_drop So word [] named so = absurd named
  of_drop So word (name ∷ []) named so = absurd named
  of_drop So word (name ∷ second ∷ options) named so = so

  of_options : (So : List (String A) → Type 0) (word : List ℕ) (words : List (String A)) → 2 ≤ length words → IsSecond word words → So (behind words)
      → IsOfOptions So words
  of_options So word words long named so = of_drop So word words named (all_behind So words long so)

  run_of_drop : (run : RunWords) (words : List (String A)) → IsSecond (codes "run") words → IsRunOf (drop 2 words) run → IsReadOf words (Run run)
  run_of_drop run [] named said = absurd named
  run_of_drop run (name ∷ []) named said = absurd named
  run_of_drop run (name ∷ second ∷ options) named said = (named, said.0, said.1)

  pub reads_run : (run : RunWords) (words : List (String A)) → 2 ≤ length words → IsSecond (codes "run") words → IsRunOf (behind words) run
      → IsReadOf words (Run run)
  reads_run run words long named said = run_of_drop run words named (all_behind (λ options. IsRunOf options run) words long said)

  pub reads_serve : (serve : ServeWords) (words : List (String A)) → 2 ≤ length words → IsSecond (codes "serve") words → IsServeOf (behind words) serve
      → IsReadOf words (Serve serve)
  reads_serve serve words long named said = (named, said.0, of_options (GivesServe serve) (codes "serve") words long named said.1)

  pub reads_log : (log : LogWords) (words : List (String A)) → 2 ≤ length words → IsSecond (codes "log") words
      → GivesLog log (map string_bytes (behind words)) → IsReadOf words (Log log)
  reads_log log words long named said =
      (named, tt, of_options (λ options. GivesLog log (map string_bytes options)) (codes "log") words long named said)

  pub reads_ask : (ask : AskWords) (words : List (String A)) → 2 ≤ length words → IsSecond (codes "ask") words → IsAskOf (behind words) ask
      → IsReadOf words (Ask ask)
  reads_ask ask words long named said = (named, said.0, of_options (GivesAsk ask) (codes "ask") words long named said.1)

  pub reads_checkpoint : (checkpoint : CheckpointWords) (words : List (String A)) → 2 ≤ length words → IsSecond (codes "checkpoint") words
      → GivesCheckpoint checkpoint (map string_bytes (behind words)) → IsReadOf words (Checkpoint checkpoint)
  reads_checkpoint checkpoint words long named said =
      (named, tt, of_options (λ options. GivesCheckpoint checkpoint (map string_bytes options)) (codes "checkpoint") words long named said)
