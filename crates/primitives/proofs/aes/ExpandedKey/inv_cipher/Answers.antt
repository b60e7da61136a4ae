-- Round by round: what the rounds that are left make of the state is what all of them make of the first one.
use Rattle.std.proofs.Common.{◌≡◌, ℕ, suc, ◌-◌, ◌<◌, List, ap, ◌∙◌, arith}
use Rattle.primitives.specs.Aes.{inv_round, inv_rounds, inv_cipher, round_key}
use Rattle.primitives.specs.Inner.{of_columns}
use Rattle.primitives.proofs.aes.ExpandedKey.inv_cipher.Goals as goal

turn : (k : ℕ → List ℕ) (n : ℕ) (t x : List ℕ) → 1 < n → x ≡ inv_round k (n - 1) t → inv_rounds k (n - 2) x ≡ inv_rounds k (n - 1) t
unfolding inv_rounds
turn k n t x l r =
    let e : n - 1 ≡ suc (n - 2) = omega arith in
    rw (r, e)

pub loop-n-preserved : goal.loop-n-preserved
loop-n-preserved c =
    let l = c.loop-n in
    let k = round_key c.args.self.now.words in
    let next : l.n - 1 - 1 ≡ l.n - 2 = omega arith in
    (omega arith, omega arith, rw next (turn k l.n (of_columns l.t) (of_columns c.inv_round-next.result) (omega arith) c.inv_round-next.ensures ∙ l.invariant.2))

pub returns : goal.returns
unfolding inv_rounds inv_cipher
returns c =
    let l = c.loop-n in
    let k = round_key c.args.self.now.words in
    let rounds = c.rounds_done-rounds.result in
    let none : l.n - 1 ≡ 0 = omega arith in
    rw (← c.rounds_done-rounds.ensures)
    (c.inv_last_round.ensures ∙ (rw none at l.invariant.2) ∙ ap (inv_rounds k (rounds - 1)) c.add_round_key-t.ensures)
