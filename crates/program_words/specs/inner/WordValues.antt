-- The values that the words after the program's name give.
use Rattle.std.specs.Prelude.{◌≡◌, Bool, List, String}
use Rattle.std.specs.declared.net.ip_addr.IpAddr.{IpAddr}
use Rattle.program_words.specs.declared.plan.Plan.{Plan}
use Rattle.program_words.specs.declared.words.Words.{Words}
use Rattle.program_words.specs.declared.words.ask.AskWords.{AskWords}
use Rattle.program_words.specs.declared.words.run.RunWords.{RunWords}
use Rattle.program_words.specs.declared.words.serve.ServeWords.{ServeWords}
use Rattle.program_words.specs.Words.{InRange, IsAskInRange, IsPlanInRange, IsRunInRange, IsServeInRange, GivesAsk, GivesRun, GivesServe, GivesPlan, GivesValues, NamesProgram}

-- the words give this plan, for a bank at this host that saves or doesn't, and that keeps a log or doesn't
abbrev pub IsPlanOf : {A : Type 0} → List (String A) → IpAddr → Bool → Bool → Plan → Type 0
IsPlanOf words host saves logs plan = IsPlanInRange logs plan × GivesPlan logs plan words × (plan.saves ≡ saves)
    × (plan.host ≡ host)

-- these words give this run
abbrev pub IsRunOf : {A : Type 0} → List (String A) → RunWords → Type 0
IsRunOf words run = IsRunInRange run × GivesRun run words

-- these words say how this bank is served
abbrev pub IsServeOf : {A : Type 0} → List (String A) → ServeWords → Type 0
IsServeOf words serve = IsServeInRange serve × GivesServe serve words

-- these words say whom a client asks
abbrev pub IsAskOf : {A : Type 0} → List (String A) → AskWords → Type 0
IsAskOf words ask = IsAskInRange ask × GivesAsk ask words

-- the words say this
abbrev pub IsReadOf : {A : Type 0} → List (String A) → Words → Type 0
IsReadOf words read = NamesProgram read words × InRange read × GivesValues read words
