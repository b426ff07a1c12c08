-- A board as it is opened.
use Rattle.std.proofs.Common.{◌≡◌, ℕ, ◌*◌, ◌≤◌, ℤ, pos, false, None, List, [], length, get_or, replicate, refl, sym, ap, ◌∙◌, arith}
use Rattle.std.proofs.lemmas.Bool.{true≢false}
use Rattle.sb_rows.specs.Balances.{Balances, IsBalances}
use Rattle.sb_calls.proofs.CownColumns.{length-contents_of}
use Rattle.sb_calls.proofs.CownContents.{IsContents-balances}
use Rattle.sb_calls.specs.Cowns.{contents_of}
use Rattle.sb_calls.specs.declared.call.TheConstants.{LOG_CALLS}
use Rattle.sb_calls.specs.declared.reply.Reply.{Reply}
use Rattle.sb_calls.specs.SerialRun.{contents_after_first}
use Rattle.cown_board.proofs.LogLaws.{no_some}
use Rattle.cown_board.specs.inner.BoardInvariant.{IsBoard}
use Rattle.cown_board.specs.declared.links.Links.{Links}

module _ {B : Type 0} (touches : B → List ℕ) (effect : B → List ℤ → Reply × List ℤ) where
  -- nothing is submitted, and the cowns hold what the columns say
  pub IsBoard-opened : (opening now : Balances) (base : ℕ) (base_replies : List Reply) (links : Links) → IsBalances opening → now ≡ opening
      → length base_replies ≡ base → base ≤ LOG_CALLS → links.linked ≡ false → links.queues.lists ≡ replicate (2 * length opening.savings) []
      → links.ready.behind.items ≡ [] → links.ready.ready.items ≡ []
      → IsBoard touches effect (record {
        opening = opening;
        now = now;
        base = base;
        base_replies = base_replies;
        log = [];
        states = [];
        links = links;
        unfinished = 0;
        cut = None;
      })
  IsBoard-opened opening now base base_replies links valid same base_length few isnt empty behind ready =
      let two = length-contents_of opening valid.same in
      record {
        base_length = base_length;
        keeps = record {
          same_length = refl;
          cown_count = ap (λ b. length (contents_of b)) same;
          opened = IsContents-balances opening valid;
          in_range = λ k cown among. absurd (true≢false (sym among));
          ordered = λ j k before within unfinished conflict. absurd (omega (arith, within));
          finished_up_to = λ cown k le finished_up_to.
              let none : k ≡ 0 = omega (arith, le) in
              ap (λ b. get_or (contents_of b) cown (pos 0)) same
              ∙ sym (ap (λ n. get_or (contents_after_first touches effect (contents_of opening) [] n) cown (pos 0)) none);
          replies = λ k reply finished. absurd (no_some finished);
        };
        links = record {
          linked = λ is. absurd (true≢false (sym is ∙ isnt));
          unlinked = λ _. (
            omega arith,
            record {
              before = λ k lt. absurd (omega (arith, lt));
              here = λ lt. absurd (omega (arith, lt));
              after = λ k lt within. absurd (omega (arith, within));
              lists = empty ∙ ap (λ n. replicate n []) (sym two);
              behind = behind;
              ready = ready;
              places = omega arith;
              counts = omega arith;
            },
          );
          room = λ some. absurd (omega (arith, some));
        };
        unfinished = refl;
        unfinished_limit = omega arith;
        length_limit = omega (arith, base_length, few);
        cut = tt;
      }
