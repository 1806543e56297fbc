-- The bucket of a vertex: some function of its label's scatter number and its links. No promise rests on which.
use Rattle.std.specs.Prelude.{ℕ, ◌+◌, ◌*◌, ◌/◌, ◌%◌, ◌^◌, ◌<◌, bit_xor}
use Rattle.std.proofs.Common.{mod-lt}
use Rattle.ledger.specs.declared.Vertex.{Vertex}

-- the high half of a word folded onto the low one
abbrev pub folded : ℕ → ℕ
folded n = bit_xor n (n / 2 ^ 32)

unfoldable pub mixed : ℕ → ℕ → ℕ → ℕ
mixed scatter low high =
    let label = (scatter * 0x9e37_79b9_7f4a_7c15) % 2 ^ 64 in
    let links = ((low * 0xc2b2_ae3d_27d4_eb4f) % 2 ^ 64 + (high * 0xd6e8_feb8_6659_fd93) % 2 ^ 64) % 2 ^ 64 in
    folded ((folded ((label + links) % 2 ^ 64) * 0x9e37_79b9_7f4a_7c15) % 2 ^ 64)

-- the bucket of a vertex among so many
unfoldable pub bucket : {S : Type 0} → (S → ℕ) → ℕ → Vertex S → ℕ
bucket scatter count v = mixed (scatter v.label) v.zero v.one % count

pub bucket_within : {S : Type 0} (scatter : S → ℕ) (count : ℕ) (v : Vertex S) → 0 < count → bucket scatter count v < count
unfolding bucket
bucket_within scatter count v h = mod-lt (mixed (scatter v.label) v.zero v.one) h
