use Rattle.crc32c.proofs.+checksum_zeros.Given as goal

abbrev pub decreases-checksum_zeros : goal.decreases-checksum_zeros
decreases-checksum_zeros l = l.n
