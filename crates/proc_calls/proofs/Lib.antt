pub mod Ended
pub mod PiecesFrom
pub mod PiecesCopied
pub mod Forked
